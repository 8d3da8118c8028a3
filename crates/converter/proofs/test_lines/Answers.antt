use Rattle.std.proofs.Common.{◌≡◌, ◌+◌, sym, ap, ◌∙◌, Err, rules, arith}
use Rattle.std.specs.Iterator.Adapters.{enumerate_source, enumerate_count}
use Rattle.cardfile.specs.Lines.{letter_of}
use Rattle.converter.proofs.Passes.{size-is, tested-none, tested-fault, tested-end, told-bytes, told-digits, told-same, told-more, seen, apart}
use Rattle.converter.proofs.test_lines.Goals as goal

pub loop-k-init : goal.loop-k-init
loop-k-init c =
    let g = c.into_iter-k-iterator.ensures.into_iter_gives in
    let n = c.enumerate-k-items.ensures in
    let s = ap (λ i. enumerate_source i) g ∙ n.source in
    let k : enumerate_count c.into_iter-k-iterator.result ≡ 0 = ap (λ i. enumerate_count i) g ∙ n.count in
    rw (s, k, c.of.ensures.1) (c.of.ensures.0, tested-none _ _ _)

pub returns-in_err-card : goal.returns-in_err-card
returns-in_err-card c =
    let p = c.in-Some.ensures.steps in
    let e : c.from_residual.result ≡ Err c.in_err-card.field-0.0 = search rules in
    rw e (tested-fault p.0 p.1 c.loop-k.invariant _ c.in_err-card.ensures)

pub returns-then-eq : goal.returns-then-eq
returns-then-eq c =
    let p = c.in-Some.ensures.steps in
    let e : c.in_ok-card.card.spelling ≡ c.args.wanted = search rules in
    told-same p.0 p.1 c.loop-k.invariant _ c.in_ok-card.ensures (ap letter_of (sym e))

pub digits-requires : goal.digits-requires
digits-requires c = let p = c.in-Some.ensures.steps in told-bytes p.0 p.1 c.loop-k.invariant _ c.in_ok-card.ensures

pub overflow_add-size : goal.overflow_add-size
overflow_add-size c = let p = c.in-Some.ensures.steps in omega (arith, told-digits p.0 p.1 c.loop-k.invariant _ c.in_ok-card.ensures)

pub overflow_add-size-in-loop-k : goal.overflow_add-size-in-loop-k
overflow_add-size-in-loop-k c = let p = c.in-Some.ensures.steps in omega (arith, told-digits p.0 p.1 c.loop-k.invariant _ c.in_ok-card.ensures)

pub loop-k-preserved : goal.loop-k-preserved
loop-k-preserved c =
    let i = c.loop-k.invariant in
    let p = c.in-Some.ensures.steps in
    let o : c.in_ok-card.card.spelling ≡ c.args.wanted → ⊥ = search rules in
    let n : enumerate_count c.next.new.self ≡ c.in-Some.k + 1 = omega arith in (
      p.0.text ∙ i.0,
      rw n (told-more p.0 p.1 i _ c.in_ok-card.ensures (apart _ _ o) _ (c.digits.ensures.0 ∙ size-is c.args.wanted _) _ c.count_more-room.ensures.more c.count_more-room.ensures.fits),
    )

pub returns : goal.returns
returns c =
    let i = c.loop-k.invariant in
    let l = enumerate_source c.loop-k.k-iterator in
    tested-end _ _ _ _ _ _ i.1 (seen _ l _ _ i.0 c.in-None.ensures.steps.0) _ c.ok_or.ensures.value
