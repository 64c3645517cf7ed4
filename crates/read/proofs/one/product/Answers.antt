-- `product` meets its contract. Assumes nothing.
use mathlib.Core.Path.{◌≡◌, ap, ap₂, ◌∙◌}
use mathlib.Core.Bool.{true}
use borrow.Author.Rules.{rules}
use lib.IntN.{ℤ, ◌+ℤ◌, ◌-ℤ◌, ◌*ℤ◌}
use mir.Syntax.{w32}
use mir.Val.{SFits}
use mir.Facts.{to_z-of_z}
use Rattle.complex.specs.Arithmetic.{◌+j◌}
use Rattle.complex.proofs.Sizes.{fits_within}
use Rattle.complex.proofs.Stored.{held}
use Rattle.read.specs.Multipliers.{is_sign}
use Rattle.read.proofs.Signs.{sign_within}
use Rattle.read.proofs.PowersOfJ.{minus_is, plus_is, product_is, arranged_both}
use Rattle.read.proofs.one.product.Goals as goal
use Rattle.read.proofs.one.product.Goals.{Start}

sign_fits : {z : ℤ} → is_sign z ≡ true → SFits w32 z
sign_fits h = fits_within (sign_within _ h) tt

-- the two signs, as they are held
module _ (c : Start) where
  re_is : held c.args.w.re ≡ c.args.w.re
  re_is = to_z-of_z {w = w32} (search rules)

  im_is : held c.args.w.im ≡ c.args.w.im
  im_is = to_z-of_z {w = w32} (search rules)

  difference : held c.args.w.re -ℤ held c.args.w.im ≡ c.args.w.re -ℤ c.args.w.im
  difference = ap₂ ◌-ℤ◌ re_is im_is

  sum : held c.args.w.re +ℤ held c.args.w.im ≡ c.args.w.re +ℤ c.args.w.im
  sum = ap₂ ◌+ℤ◌ re_is im_is

  difference_fits : SFits w32 (held c.args.w.re -ℤ held c.args.w.im)
  difference_fits = rw difference (sign_fits (minus_is c.args.w c.requires.0))

  sum_fits : SFits w32 (held c.args.w.re +ℤ held c.args.w.im)
  sum_fits = rw sum (sign_fits (plus_is c.args.w c.requires.0))

pub overflow_sub-w : goal.overflow_sub-w
overflow_sub-w c = difference_fits (goal.at.overflow_sub-w c).Start

pub overflow_add-w : goal.overflow_add-w
overflow_add-w c = sum_fits (goal.at.overflow_add-w c).Start

pub both_signed-requires : goal.both_signed-requires
both_signed-requires c =
    let w = c.args.w in
    let s = (goal.at.both_signed-requires c).Start in (
      ap is_sign (to_z-of_z (difference_fits s) ∙ difference s) ∙ minus_is w c.requires.0,
      ap is_sign (to_z-of_z (sum_fits s) ∙ sum s) ∙ plus_is w c.requires.0,
      arranged_both c.args.x w c.arranged.result c.requires.0 c.arranged.ensures.zero c.arranged.ensures.other c.requires.1,
    )

pub returns : goal.returns
returns c =
    let s = (goal.at.returns c).Start in
    c.both_signed.ensures
    ∙ ap₂ (λ (p q : ℤ). (p *ℤ c.arranged.result.re) +j (q *ℤ c.arranged.result.im)) (to_z-of_z (difference_fits s) ∙ difference s) (to_z-of_z (sum_fits s) ∙ sum s)
    ∙ product_is c.args.x c.args.w c.arranged.result c.requires.0 c.arranged.ensures.zero c.arranged.ensures.other
