-- `lower` meets its contract. Assumes nothing.
use mathlib.Core.Path.{◌≡◌, ap, ◌∙◌}
use borrow.Author.Rules.{rules}
use lib.IntN.{◌+ℤ◌}
use mir.Syntax.{w32}
use mir.Val.{SFits, to_z, of_z}
use mir.Facts.{to_z-of_z}
use Rattle.complex.proofs.Sizes.{fits_within, within_add}
use Rattle.find.specs.PeakSearch.{lowered_of}
use Rattle.find.proofs.Blocks.{lowered_within}
use Rattle.find.proofs.finding.lower.Goals as goal
use Rattle.find.proofs.finding.lower.Goals.{After-lowered-2}

-- both parts, as the locals hold them
re_is : (c : After-lowered-2) → to_z w32 (of_z w32 c.lowered.result) ≡ lowered_of c.args.re
re_is c = let f : SFits w32 c.lowered.result = search rules in to_z-of_z f ∙ c.lowered.ensures ∙ ap lowered_of (to_z-of_z c.ranges.re)

im_is : (c : After-lowered-2) → to_z w32 (of_z w32 c.lowered-2.result) ≡ lowered_of c.args.im
im_is c = let f : SFits w32 c.lowered-2.result = search rules in to_z-of_z f ∙ c.lowered-2.ensures ∙ ap lowered_of (to_z-of_z c.ranges.im)

-- their sum, which fits
asks : (c : After-lowered-2) → SFits w32 (to_z w32 (of_z w32 c.lowered.result) +ℤ to_z w32 (of_z w32 c.lowered-2.result))
asks c = rw (re_is c, im_is c) (fits_within (within_add (lowered_within c.requires.0) (lowered_within c.requires.1)) tt)

sum_is : (c : After-lowered-2) → to_z w32 (of_z w32 (to_z w32 (of_z w32 c.lowered.result) +ℤ to_z w32 (of_z w32 c.lowered-2.result))) ≡ lowered_of c.args.re +ℤ lowered_of c.args.im
sum_is c = to_z-of_z (asks c) ∙ (λ i. re_is c i +ℤ im_is c i)

pub returns-then-y-low : goal.returns-then-y-low
returns-then-y-low c =
    let place = (goal.at.returns-then-y-low c).After-lowered-2 in
    let e = rw (sum_is place, to_z-of_z c.ranges.low) at c.if-y-low.true in
    rw (sum_is place, e)

pub returns-else-y-low : goal.returns-else-y-low
returns-else-y-low c =
    let e = rw (sum_is (goal.at.returns-else-y-low c).After-lowered-2, to_z-of_z c.ranges.low) at c.if-y-low.false in
    rw (to_z-of_z c.ranges.low, e)
