-- `sum_or_difference` meets its contract: both entries are small enough for either. Assumes nothing.
use mathlib.Core.Path.{◌≡◌}
use Prim.Native.Nat.{◌+◌}
use borrow.Author.Tests.{eq-eqb, ne_eqb}
use lib.IntN.{ℤ, pos, ◌+ℤ◌, ◌-ℤ◌}
use lib.ListN.{get_or}
use mir.Syntax.{w32}
use mir.Val.{SFits, to_z, of_z}
use mir.Facts.{to_z-of_z}
use Rattle.complex.proofs.Sizes.{within_add, within_sub, fits_within}
use Rattle.modulation.proofs.data.sum_or_difference.Goals as goal
use Rattle.modulation.proofs.data.sum_or_difference.Goals.{Start}

module _ (c : Start) where
  abbrev x₁ : ℤ
  x₁ = get_or c.args.x.now c.args.n (pos 0)

  abbrev x₂ : ℤ
  x₂ = get_or c.args.x.now (c.args.n + c.args.h) (pos 0)

  -- the two entries, as the locals hold them
  first_is : to_z w32 (of_z w32 x₁) ≡ x₁
  first_is = to_z-of_z {w = w32} (fits_within (c.requires.1.at _) tt)

  second_is : to_z w32 (of_z w32 x₂) ≡ x₂
  second_is = to_z-of_z {w = w32} (fits_within (c.requires.1.at _) tt)

  sum : SFits w32 (x₁ +ℤ x₂)
  sum = fits_within (within_add (c.requires.1.at _) (c.requires.1.at _)) tt

  difference : SFits w32 (x₁ -ℤ x₂)
  difference = fits_within (within_sub (c.requires.1.at _) (c.requires.1.at _)) tt

pub overflow_add-result-then-i-eq0 : goal.overflow_add-result-then-i-eq0
overflow_add-result-then-i-eq0 c = rw (first_is (goal.at.overflow_add-result-then-i-eq0 c).Start, second_is (goal.at.overflow_add-result-then-i-eq0 c).Start) (sum (goal.at.overflow_add-result-then-i-eq0 c).Start)

pub overflow_sub-result : goal.overflow_sub-result
overflow_sub-result c = rw (first_is (goal.at.overflow_sub-result c).Start, second_is (goal.at.overflow_sub-result c).Start) (difference (goal.at.overflow_sub-result c).Start)

pub returns-then-i-eq0 : goal.returns-then-i-eq0
returns-then-i-eq0 c =
    rw (eq-eqb _ _ c.if-i-eq0.true, first_is (goal.at.returns-then-i-eq0 c).Start, second_is (goal.at.returns-then-i-eq0 c).Start) (to_z-of_z (sum (goal.at.returns-then-i-eq0 c).Start))

pub returns-else-i-eq0 : goal.returns-else-i-eq0
returns-else-i-eq0 c =
    rw (ne_eqb _ _ c.if-i-eq0.false, first_is (goal.at.returns-else-i-eq0 c).Start, second_is (goal.at.returns-else-i-eq0 c).Start) (to_z-of_z (difference (goal.at.returns-else-i-eq0 c).Start))
