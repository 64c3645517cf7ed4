-- How find searches: correlations by steps, and the largest size by blocks. Nothing here is document 01's: the contracts of the public calls do not name it.
use Rattle.std.specs.Prelude.{◌≡◌, ℤ, pos, neg_ℤ, nat_abs, ◌+ℤ◌, ◌-ℤ◌, ℕ, ◌+◌, ◌*◌, ◌<◌, ◌≤◌, Bool, true, cond, List}
use Rattle.std.specs.Int.Signed.{le_z, lt_z}
use Rattle.complex.specs.Buffers.{◌at◌}
use Rattle.complex.specs.Arithmetic.{◌+j◌, ◌⊗◌, conj, squared_size}
use Rattle.complex.specs.Fits.{Within}
use Rattle.analyser_parts.specs.declared.largest.Largest.{Largest}

-- ---- the correlation with the primary code by steps
-- a step: four entries of x from p on, a, b and c apart from it, the last one with a minus
abbrev pub four_of : (ℕ → ℤ) → ℕ → ℕ → ℕ → ℕ → ℤ
four_of x a b c p = x p +ℤ x (p + a) +ℤ (x (p + b) -ℤ x (p + c))

-- from the sums x of re and y of im with the signs of the code, the squared size of the correlation
unfoldable pub size_of : ℤ → ℤ → ℤ
size_of x y = squared_size ((x +j y) ⊗ conj (pos 1 +j pos 1))

abbrev pub sizes : List ℤ → List ℤ → ℕ → ℤ
sizes re im k = size_of (re at k) (im at k)

-- ---- the largest size by blocks
-- -|x|, and the smaller of low and -(|x| + |y|)
abbrev pub lowered_of : ℤ → ℤ
lowered_of x = cond (lt_z (pos 0) x) (neg_ℤ x) x

abbrev pub lower_of : ℤ → ℤ → ℤ → ℤ
lower_of low x y = cond (lt_z (lowered_of x +ℤ lowered_of y) low) (lowered_of x +ℤ lowered_of y) low

-- low is not positive and at most 51200000 in size, and at each of n entries |x| + |y| is at most its size
pub record Covers (x y : List ℤ) (from n : ℕ) (low : ℤ) : Type 0 where
  pub sign : le_z low (pos 0) ≡ true
  pub size : Within 51200000 low
  pub each : (i : ℕ) → i < n → nat_abs (x at (from + i)) + nat_abs (y at (from + i)) ≤ nat_abs low

-- of n blocks of 32 values s, each value is at most its block's entry
pub record Bounded (s : ℕ → ℤ) (n : ℕ) (bounds : List ℤ) : Type 0 where
  pub each : (k : ℕ) → k < n → (i : ℕ) → i < 32 → le_z (s (k * 32 + i)) (bounds at k) ≡ true

-- b is one of `count` values s, and c says which of them are looked at. Of those of the first n none is larger; of those before b none is as large
pub record PeaksBelow (s : ℕ → ℤ) (c : ℕ → Bool) (count n : ℕ) (b : Largest) : Type 0 where
  pub below : b.at < count
  pub own : b.value ≡ s b.at
  pub largest : (k : ℕ) → k < n → c k ≡ true → le_z (s k) (s b.at) ≡ true
  pub earliest : (k : ℕ) → k < b.at → c k ≡ true → lt_z (s k) (s b.at) ≡ true
