-- The largest of values that come one after another. Nothing here is document 01's: the contracts of the public calls do not name it.
use Rattle.std.specs.Prelude.{◌≡◌, ℤ, ℕ, ◌<◌, true, cond}
use Rattle.std.specs.Int.Signed.{le_z, lt_z}
use Rattle.analyser_parts.specs.declared.largest.Largest.{Largest}

-- the larger of two values, the earlier one where they are equal
abbrev pub or_later : Largest → Largest → Largest
or_later b c = cond (lt_z b.value c.value) c b

-- of n values s, the largest, the earliest where several are
pub record Peaks (s : ℕ → ℤ) (n : ℕ) (b : Largest) : Type 0 where
  pub below : b.at < n
  pub own : b.value ≡ s b.at
  pub largest : (k : ℕ) → k < n → le_z (s k) (s b.at) ≡ true
  pub earliest : (k : ℕ) → k < b.at → lt_z (s k) (s b.at) ≡ true
