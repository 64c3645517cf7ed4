-- What each code adds to a score, from the sums over its parts. Nothing here is document 01's: the contracts of the public calls do not name it.
use Rattle.std.specs.Prelude.{ℤ, pos, ◌+ℤ◌, ◌*ℤ◌, ℕ, ◌+◌, cond, List, get_or}
use Rattle.complex.specs.declared.Complex.{Complex}
use Rattle.complex.specs.Arithmetic.{𝟎, ◌⊗◌, conj, Σℤ<}
use Rattle.codes.specs.declared.ModulatedCode.{ModulatedCode}
use Rattle.codes.specs.declared.Allocated.{Allocated}
use Rattle.codes.specs.SyncCodes.{is_sync_code}
use Rattle.codes.specs.PackedSigns.{secondary_row, sign_bit}
use Rattle.analyser_parts.specs.PartSums.{correlated}

-- the sum of n entries from `from` on, with the signs of a row from `at` on
abbrev pub sum_with_signs : ℕ → List ℤ → ℕ → ℕ → ℕ → ℤ
sum_with_signs n x from row at = Σℤ< n (λ i. sign_bit row (at + i) *ℤ get_or x (from + i) (pos 0))

-- the sum of eight entries from `from` on, with the signs of a row from `at` on
unfoldable pub half_sum : List ℤ → ℕ → ℕ → ℕ → ℤ
half_sum x from row at = sum_with_signs 8 x from row at

-- the correlation with secondary code i times the conjugate of p, from the sums of the parts against b; 0 where no code has the number
unfoldable pub product : List ℤ → List ℤ → Complex → ℕ → Complex
product re im p i = cond (is_sync_code i) (correlated re im (secondary_row i) ⊗ conj p) 𝟎

-- from such products d, what a code adds to a score, and a score
unfoldable pub share_of : (ℕ → Complex) → ModulatedCode → ℤ
share_of d m = (d m.code ⊗ conj m.unit).re

abbrev pub shares_of : (ℕ → Complex) → Allocated → ℤ
shares_of d s = share_of d s.first +ℤ share_of d s.second +ℤ share_of d s.marker
