-- Which number below n passes a test, and which gives the largest value.
use Rattle.std.specs.Prelude.{ℤ, ℕ, zero, suc, Bool, ◌||◌, cond, eqb}
use Rattle.std.specs.Int.Signed.{le_z, lt_z}
use Rattle.codes.specs.Range.{each}

-- the smallest of the n numbers from k on that passes the test; k + n where none does
unfoldable pub smallest_from : ℕ → ℕ → (ℕ → Bool) → ℕ
smallest_from k zero f = k
smallest_from k (suc n) f = cond (f k) k (smallest_from (suc k) n f)

-- the smallest number below n that passes the test; n where none does
abbrev pub smallest : ℕ → (ℕ → Bool) → ℕ
smallest n f = smallest_from 0 n f

-- no number below n has a larger value than m
unfoldable pub has_largest : ℕ → (ℕ → ℤ) → ℕ → Bool
has_largest n s m = each n (λ k. le_z (s k) (s m))

-- the value of m is larger than that of every other number below n
unfoldable pub beats_others : ℕ → (ℕ → ℤ) → ℕ → Bool
beats_others n s m = each n (λ k. eqb k m || lt_z (s k) (s m))
