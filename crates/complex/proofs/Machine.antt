-- What a signed operation of the machine asks of its operands, and what it gives: an operand that is a local or a field
-- stands in a goal as the bits that it is held in, `to_z w (of_z w x)`. Assumes nothing.
use mathlib.Core.Path.{◌≡◌, ◌∙◌}
use lib.IntN.{ℤ, pos, neg_ℤ, ◌+ℤ◌, ◌-ℤ◌, ◌*ℤ◌, +ℤ_idl}
use mir.Syntax.{Width}
use mir.Val.{SFits, to_z, of_z}
use mir.Facts.{to_z-of_z}

module _ {w : Width} {x : ℤ} (f : SFits w x) where
  -- `-x` is 0 - x
  pub neg_asks : SFits w (neg_ℤ x) → SFits w (pos 0 -ℤ to_z w (of_z w x))
  neg_asks h = rw (to_z-of_z f, +ℤ_idl) h

  pub neg_gives : SFits w (neg_ℤ x) → to_z w (of_z w (pos 0 -ℤ to_z w (of_z w x))) ≡ neg_ℤ x
  neg_gives h = to_z-of_z (neg_asks h) ∙ rw (to_z-of_z f, +ℤ_idl)

  module _ {y : ℤ} (g : SFits w y) where
    pub add_asks : SFits w (x +ℤ y) → SFits w (to_z w (of_z w x) +ℤ to_z w (of_z w y))
    add_asks h = rw (to_z-of_z f, to_z-of_z g) h

    pub add_gives : SFits w (x +ℤ y) → to_z w (of_z w (to_z w (of_z w x) +ℤ to_z w (of_z w y))) ≡ x +ℤ y
    add_gives h = to_z-of_z (add_asks h) ∙ rw (to_z-of_z f, to_z-of_z g)

    pub mul_asks : SFits w (x *ℤ y) → SFits w (to_z w (of_z w x) *ℤ to_z w (of_z w y))
    mul_asks h = rw (to_z-of_z f, to_z-of_z g) h

    pub mul_gives : SFits w (x *ℤ y) → to_z w (of_z w (to_z w (of_z w x) *ℤ to_z w (of_z w y))) ≡ x *ℤ y
    mul_gives h = to_z-of_z (mul_asks h) ∙ rw (to_z-of_z f, to_z-of_z g)
