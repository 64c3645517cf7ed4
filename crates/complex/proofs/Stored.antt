-- What a 32-bit expression of the code comes to, step by step: its value, and its size, from which each step fits. Assumes nothing.
use mathlib.Core.Path.{◌≡◌, refl, sym, subst, ◌∙◌, ap₂}
use Prim.Native.Nat.{ℕ, ◌+◌, ◌*◌, ◌^◌, ◌≤◌}
use lib.Dec.{T, ltb}
use lib.IntN.{ℤ, pos, ◌+ℤ◌, ◌-ℤ◌, ◌*ℤ◌}
use mir.Syntax.{w32}
use mir.Val.{SFits, hbits, to_z, of_z}
use mir.Facts.{to_z-of_z}
use Rattle.complex.specs.Fits.{Within}
use Rattle.complex.proofs.Sizes.{within_add, within_sub, within_mul, fits_within}

-- x, as a local or a field holds it
abbrev pub held : ℤ → ℤ
held x = to_z w32 (of_z w32 x)

-- x, as the code makes it, is y, which is at most k in size
pub record Is (k : ℕ) (x y : ℤ) : Type 0 where
  pub equal : x ≡ y
  pub size : Within k y

-- where the code takes it as it is
pub given : {k : ℕ} {x : ℤ} → Within k x → Is k x x
given h = record { equal = refl; size = h }

-- a number that the code casts
pub number : (k n : ℕ) → n ≤ k → Is k (pos n) (pos n)
number k n h = given (record { size = h })

module _ {k : ℕ} {x a : ℤ} (h : Is k x a) where
  pub within : Within k x
  within = subst (Within k) (sym h.equal) h.size

  -- at a bound that computes: `fits h tt`
  pub fits : T (ltb k (2 ^ hbits w32)) → SFits w32 x
  fits t = fits_within within t

  pub stored : T (ltb k (2 ^ hbits w32)) → Is k (held x) a
  stored t = record { equal = to_z-of_z (fits t) ∙ h.equal; size = h.size }

  module _ {l : ℕ} {y b : ℤ} (g : Is l y b) where
    pub plus : Is (k + l) (x +ℤ y) (a +ℤ b)
    plus = record { equal = ap₂ ◌+ℤ◌ h.equal g.equal; size = within_add h.size g.size }

    pub minus : Is (k + l) (x -ℤ y) (a -ℤ b)
    minus = record { equal = ap₂ ◌-ℤ◌ h.equal g.equal; size = within_sub h.size g.size }

    pub times : Is (k * l) (x *ℤ y) (a *ℤ b)
    times = record { equal = ap₂ ◌*ℤ◌ h.equal g.equal; size = within_mul h.size g.size }
