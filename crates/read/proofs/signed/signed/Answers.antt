-- `signed` meets its contract. Assumes nothing.
use mathlib.Core.Path.{◌≡◌, sym, ap, ◌∙◌}
use mathlib.Core.Bool.{true, false}
use lib.IntN.{ℤ, pos, neg_ℤ, ◌*ℤ◌}
use lib.Signed.{lt_z}
use mir.Syntax.{w32}
use mir.Val.{SFits}
use mir.Facts.{to_z-of_z}
use Rattle.complex.proofs.Integers.{negsuc_zero_*ℤ, pos_one_*ℤ}
use Rattle.complex.proofs.Machine.{neg_asks, neg_gives}
use Rattle.complex.proofs.Sizes.{fits_within, within_neg}
use Rattle.read.proofs.Signs.{minus_sign, plus_sign}
use Rattle.read.proofs.signed.signed.Goals as goal
use Rattle.read.proofs.signed.signed.Goals.{Start}

negative : (c : Start) → SFits w32 (neg_ℤ c.args.x)
negative c = fits_within (within_neg c.requires.1) tt

pub overflow_sub-result : goal.overflow_sub-result
overflow_sub-result c = neg_asks c.ranges.x (negative (goal.at.overflow_sub-result c).Start)

pub returns-then-s-lt0 : goal.returns-then-s-lt0
returns-then-s-lt0 c =
    let e : lt_z c.args.s (pos 0) ≡ true = sym (ap (λ (z : ℤ). lt_z z (pos 0)) (to_z-of_z c.ranges.s)) ∙ c.if-s-lt0.true in
    neg_gives c.ranges.x (negative (goal.at.returns-then-s-lt0 c).Start)
    ∙ sym (ap (λ (t : ℤ). t *ℤ c.args.x) (minus_sign c.args.s c.requires.0 e) ∙ negsuc_zero_*ℤ c.args.x)

pub returns-else-s-lt0 : goal.returns-else-s-lt0
returns-else-s-lt0 c =
    let e : lt_z c.args.s (pos 0) ≡ false = sym (ap (λ (z : ℤ). lt_z z (pos 0)) (to_z-of_z c.ranges.s)) ∙ c.if-s-lt0.false in
    to_z-of_z c.ranges.x
    ∙ sym (ap (λ (t : ℤ). t *ℤ c.args.x) (plus_sign c.args.s c.requires.0 e) ∙ pos_one_*ℤ c.args.x)
