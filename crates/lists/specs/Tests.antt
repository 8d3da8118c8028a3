-- Laws of tests: two at once, one or the other, and equal ones. Assumes nothing.
use Rattle.std.specs.Prelude.{ℕ, ◌≡◌, refl, Bool, true, false, ◌&&◌, ◌||◌, ◌⊎◌, eqb}
use Rattle.std.proofs.Common.{sym, ◌∙◌, true≢false, inl, inr, eqb-true, eq-eqb}
use Rattle.std.specs.Bool.{beq}
use Rattle.std.proofs.lemmas.Bool.{false≢true}

pub and_both : (a b : Bool) → a ≡ true → b ≡ true → (a && b) ≡ true
and_both true b h k = k
and_both false b h k = h

pub both_true : (a b : Bool) → (a && b) ≡ true → (a ≡ true) × (b ≡ true)
both_true true b h = (refl, h)
both_true false b h = absurd (false≢true h)

pub or_cases : (a b : Bool) → (a || b) ≡ true → (a ≡ true) ⊎ (b ≡ true)
or_cases true b h = inl refl
or_cases false b h = inr h

pub or-first : (a b : Bool) → a ≡ true → (a || b) ≡ true
or-first true b h = refl
or-first false b h = absurd (false≢true h)

pub or-second : (a b : Bool) → b ≡ true → (a || b) ≡ true
or-second true b h = refl
or-second false b h = h

pub both_ways : (a b : Bool) → (a ≡ true → b ≡ true) → (b ≡ true → a ≡ true) → a ≡ b
both_ways true b f g = sym (f refl)
both_ways false true f g = g refl
both_ways false false f g = refl

pub not-both : {t : Bool} → t ≡ true → t ≡ false → ⊥
not-both p q = true≢false (sym p ∙ q)

pub false_of : (t : Bool) → (t ≡ true → ⊥) → t ≡ false
false_of true f = absurd (f refl)
false_of false f = refl

pub beq-true : (a b : Bool) → beq a b ≡ true → a ≡ b
beq-true true true h = refl
beq-true true false h = absurd (false≢true h)
beq-true false true h = absurd (false≢true h)
beq-true false false h = refl

pub beq-of : (a b : Bool) → a ≡ b → beq a b ≡ true
beq-of true true h = refl
beq-of true false h = sym h
beq-of false true h = h
beq-of false false h = refl

pub eqb-turn : (a b : ℕ) → eqb a b ≡ eqb b a
eqb-turn a b = both_ways (eqb a b) (eqb b a) (λ h. eq-eqb b a (sym (eqb-true a b h))) (λ h. eq-eqb a b (sym (eqb-true b a h)))
