-- `strongest` meets its contract. The loop's invariant: `best` is the largest of the sizes passed that are `least` or more, the earliest of equal
-- ones. Assumes nothing.
use mathlib.Core.Path.{◌≡◌, ◌∙◌}
use Prim.Native.Nat.{◌/◌, ◌<◌, ◌≤◌}
use native.Mathlib.Omega.{arith}
use borrow.Author.Rules.{rules}
use lib.IntN.{pos}
use lib.ListN.{get_or, length, take}
use lib.Seq.{get_or-take, length-take-le}
use mir.Syntax.{w64}
use mir.Val.{SFits}
use mir.Facts.{to_z-of_z}
use Rattle.complex.specs.Buffers.{◌at◌}
use Rattle.find.specs.Searching.{starts}
use Rattle.find.proofs.Blocks.{all_passed}
use Rattle.find.proofs.finding.Correlations.strongest.Goals as goal

pub block-best-requires : goal.block-best-requires
unfolding ◌at◌
block-best-requires c =
    let n = starts c.args.self.now / 32 in
    let b = c.bounds-bounds.result in
    let long : n ≤ length b = search rules in
    let f : SFits w64 (get_or (take n b) c.loop-k.k (pos 0)) = search rules in
    let m : c.loop-k.k < n = omega (arith, length-take-le n b long) in
    let one = to_z-of_z f ∙ get_or-take n b c.loop-k.k (pos 0) m in
    (omega arith, (λ i l. rw one (c.bounds-bounds.ensures.each c.loop-k.k m i l)), c.loop-k.invariant.1)

pub returns : goal.returns
returns c =
    let n = starts c.args.self.now / 32 in
    let long : n ≤ length c.bounds-bounds.result = search rules in
    let e : c.loop-k.k ≡ n = omega (arith, length-take-le n c.bounds-bounds.result long) in
    let f : SFits w64 c.floor-least.result = search rules in
    all_passed _ _ _ c.floor-least.ensures.0 c.floor-least.ensures.1 _ (to_z-of_z f ∙ c.floor-least.ensures.2) (c.look.ensures _ (rw e at c.loop-k.invariant.1))
