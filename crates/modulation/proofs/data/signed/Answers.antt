-- `signed` meets its contract: a number of size 1 at most is -1, 1 or 0. Assumes nothing.
use mathlib.Core.Path.{◌≡◌, sym, ap, ◌∙◌}
use mathlib.Core.Bool.{Bool}
use native.Mathlib.Omega.{arith}
use lib.IntN.{ℤ, pos, negsuc, neg_ℤ, ◌*ℤ◌, zero-*ℤ}
use lib.Signed.{lt_z}
use mir.Syntax.{w32}
use mir.Val.{SFits, to_z, of_z}
use mir.Facts.{to_z-of_z}
use Rattle.complex.proofs.Integers.{abs_parts, by_parts, negsuc_zero_*ℤ, pos_one_*ℤ}
use Rattle.complex.proofs.Machine.{neg_asks, neg_gives}
use Rattle.complex.proofs.Order.{lt_z_true, lt_z_false}
use Rattle.complex.proofs.Sizes.{fits_within, within_neg}
use Rattle.modulation.proofs.data.signed.Goals as goal
use Rattle.modulation.proofs.data.signed.Goals.{Start}

negative : (c : Start) → SFits w32 (neg_ℤ c.args.x)
negative c = fits_within (within_neg c.requires.1) tt

-- the tests of s, as the local holds it
module _ (c : Start) {b : Bool} where
  below : lt_z (to_z w32 (of_z w32 c.args.s)) (pos 0) ≡ b → lt_z c.args.s (pos 0) ≡ b
  below e = rw (to_z-of_z c.ranges.s) at e

  above : lt_z (pos 0) (to_z w32 (of_z w32 c.args.s)) ≡ b → lt_z (pos 0) c.args.s ≡ b
  above e = rw (to_z-of_z c.ranges.s) at e

times : {s t : ℤ} (x : ℤ) → s ≡ t → t *ℤ x ≡ s *ℤ x
times x e = sym (ap (λ (z : ℤ). z *ℤ x) e)

pub overflow_sub-result : goal.overflow_sub-result
overflow_sub-result c = neg_asks c.ranges.x (negative (goal.at.overflow_sub-result c).Start)

pub returns-then-s-lt0 : goal.returns-then-s-lt0
returns-then-s-lt0 c =
    let e = by_parts c.args.s (negsuc 0) (omega (arith, abs_parts c.args.s, c.requires.0.size, lt_z_true c.args.s (pos 0) (below (goal.at.returns-then-s-lt0 c).Start c.if-s-lt0.true))) in
    neg_gives c.ranges.x (negative (goal.at.returns-then-s-lt0 c).Start) ∙ sym (negsuc_zero_*ℤ c.args.x) ∙ times c.args.x e

pub returns-then-s-gt0 : goal.returns-then-s-gt0
returns-then-s-gt0 c =
    let e = by_parts c.args.s (pos 1) (omega (arith, abs_parts c.args.s, c.requires.0.size, lt_z_true (pos 0) c.args.s (above (goal.at.returns-then-s-gt0 c).Start c.if-s-gt0.true))) in
    to_z-of_z c.ranges.x ∙ sym (pos_one_*ℤ c.args.x) ∙ times c.args.x e

pub returns-else-s-gt0 : goal.returns-else-s-gt0
returns-else-s-gt0 c =
    let e = by_parts c.args.s (pos 0) (omega (arith, lt_z_false c.args.s (pos 0) (below (goal.at.returns-else-s-gt0 c).Start c.if-s-lt0.false), lt_z_false (pos 0) c.args.s (above (goal.at.returns-else-s-gt0 c).Start c.if-s-gt0.false))) in
    sym (zero-*ℤ c.args.x) ∙ times c.args.x e
