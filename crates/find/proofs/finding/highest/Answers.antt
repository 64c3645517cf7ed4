-- `highest` meets its contract. The loop's invariant: `top` is the largest of the bounds passed. Assumes nothing.
use mathlib.Core.Path.{refl, sym, subst}
use mathlib.Core.Bool.{true}
use Prim.Native.Nat.{◌+◌}
use native.Mathlib.Omega.{arith}
use borrow.Author.Rules.{rules}
use lib.IntN.{pos}
use lib.ListN.{get_or, length}
use mir.Syntax.{w64}
use mir.Val.{SFits}
use mir.Facts.{to_z-of_z}
use Rattle.complex.specs.Buffers.{◌at◌}
use Rattle.find.specs.PeakSearch.{PeaksBelow}
use Rattle.find.proofs.Blocks.{none_passed, one_passed}
use Rattle.find.proofs.finding.highest.Goals as goal

pub loop-at-init : goal.loop-at-init
unfolding ◌at◌
loop-at-init c =
    let f : SFits w64 (get_or c.args.bounds.now 0 (pos 0)) = search rules in
    (omega arith, none_passed _ _ _ _ c.requires refl (to_z-of_z f))

pub loop-at-preserved : goal.loop-at-preserved
unfolding ◌at◌
loop-at-preserved c =
    let l = c.loop-at in
    let b = ◌at◌ c.args.bounds.now in
    let f : SFits w64 (get_or c.args.bounds.now l.at (pos 0)) = search rules in
    (omega arith, subst (PeaksBelow b (λ j. true) (length c.args.bounds.now) (l.at + 1)) (sym c.or_later-top.ensures) (one_passed _ _ _ l.at l.top (omega arith) l.invariant.1 _ (to_z-of_z f)))
