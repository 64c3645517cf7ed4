-- The size of a whole number, and the step from a size to "fits a width". Assumes nothing.
use mathlib.Core.Path.{◌≡◌, refl, sym, subst}
use Prim.Native.Nat.{ℕ, suc, ◌+◌, ◌*◌, ◌≤◌, ◌^◌}
use native.Mathlib.Nat.{mul-le-mul}
use native.Mathlib.Omega.{arith}
use lib.Dec.{T, ltb, ltb→lt}
use lib.IntN.{ℤ, pos, negsuc, neg_ℤ, nat_abs, ◌+ℤ◌, ◌-ℤ◌, ◌*ℤ◌}
use lib.Signed.{mag}
use mir.Syntax.{Width}
use mir.Val.{SFits, hbits}
use Rattle.complex.specs.Fits.{Within}
use Rattle.complex.proofs.Integers.{pos_part, neg_part, abs_parts, negℤ_pos_part, negℤ_neg_part, +ℤ_parts}

abs_neg : (z : ℤ) → nat_abs (neg_ℤ z) ≡ nat_abs z
abs_neg z = omega (arith, abs_parts z, abs_parts (neg_ℤ z), negℤ_pos_part z, negℤ_neg_part z)

abs_add : (x y : ℤ) → nat_abs (x +ℤ y) ≤ nat_abs x + nat_abs y
abs_add x y = by (x +ℤ y) (+ℤ_parts x y)
  where
    by : (z : ℤ) → pos_part z + (neg_part x + neg_part y) ≡ (pos_part x + pos_part y) + neg_part z → nat_abs z ≤ nat_abs x + nat_abs y
    by (pos n) e = omega (arith, abs_parts x, abs_parts y)
    by (negsuc n) e = omega (arith, abs_parts x, abs_parts y)

abs_mul : (x y : ℤ) → nat_abs (x *ℤ y) ≡ nat_abs x * nat_abs y
abs_mul (pos a) (pos b) = refl
abs_mul (pos a) (negsuc b) = abs_neg (pos (a * suc b))
abs_mul (negsuc a) (pos b) = abs_neg (pos (suc a * b))
abs_mul (negsuc a) (negsuc b) = refl

mag_abs : (z : ℤ) → mag z ≤ nat_abs z
mag_abs (pos n) = omega arith
mag_abs (negsuc n) = omega arith

module _ {k : ℕ} {x : ℤ} (h : Within k x) where
  pub within_neg : Within k (neg_ℤ x)
  within_neg = record { size = omega (arith, abs_neg x) }

  pub within_more : (l : ℕ) → k ≤ l → Within l x
  within_more l g = record { size = omega arith }

  -- at a bound that computes: `fits_within h tt`
  pub fits_within : {w : Width} → T (ltb k (2 ^ hbits w)) → SFits w x
  fits_within {w} t = record { sfits = omega (arith, mag_abs x, h.size, ltb→lt k (2 ^ hbits w) t) }

  module _ {l : ℕ} {y : ℤ} (g : Within l y) where
    pub within_add : Within (k + l) (x +ℤ y)
    within_add = record { size = omega (arith, abs_add x y) }

    pub within_sub : Within (k + l) (x -ℤ y)
    within_sub = record { size = omega (arith, abs_add x (neg_ℤ y), abs_neg y) }

    pub within_mul : Within (k * l) (x *ℤ y)
    within_mul = record { size = subst (λ (n : ℕ). n ≤ k * l) (sym (abs_mul x y)) (mul-le-mul h.size g.size) }
