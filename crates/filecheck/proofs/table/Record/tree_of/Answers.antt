use Rattle.std.proofs.Common.{rules}
use mathlib.Core.Path.{sym, ap, ◌∙◌}
use Prim.Native.Nat.{ℕ, ◌/◌}
use native.Mathlib.Omega.{arith}
use Rattle.filecheck.specs.File.{Stands}
use Rattle.filecheck.proofs.Shape.{packed-at, flat-many, flat-walked, flat-marks, deep-walked, deep-marks}
use Rattle.filecheck.proofs.table.Record.tree_of.Goals as goal

pub are_packed-requires : goal.are_packed-requires
are_packed-requires c = let h : Stands c.args.self.now = search rules in let a = c.place_in_block.ensures.0 in let d = sym c.depth.ensures ∙ c.if-depth-eq0.true in
    flat-many _ _ _ _ _ _ h a d _ _ c.none.ensures c.extents_over-r.ensures.0

pub returns-then-depth-eq0 : goal.returns-then-depth-eq0
returns-then-depth-eq0 c = let h : Stands c.args.self.now = search rules in let x = c.extents_over-r.ensures in let a = c.place_in_block.ensures.0 in let d = sym c.depth.ensures ∙ c.if-depth-eq0.true in
    (flat-walked _ _ _ _ _ _ h a d _ _ c.none.ensures x.0 _ c.flat.ensures _ (ap (λ (z : ℕ). z / 512) c.size.ensures), packed-at _ _ _ _ h a _ c.are_packed.ensures, flat-marks _ (c.size.result / 512) _ _ _ _ h a d _ _ c.none.ensures x.0 _ _ x.3)

pub returns : goal.returns
returns c = let h : Stands c.args.self.now = search rules in let x = c.nodes_over.ensures in let a = c.place_in_block.ensures.0 in let d = sym c.depth.ensures ∙ omega arith in
    (deep-walked _ _ _ _ _ _ h a d _ x.0 _ (ap (λ (z : ℕ). z / 512) c.size.ensures), packed-at _ _ _ _ h a _ x.1, deep-marks _ (c.size.result / 512) _ _ _ _ h a d _ _ x.2)
