-- Correlations by sums of sixteen. Nothing here is document 01's: the contracts of the public calls do not name it.
use Rattle.std.specs.Prelude.{ℤ, pos, ◌*ℤ◌, ℕ, ◌+◌, ◌*◌, List, get_or}
use Rattle.complex.specs.Buffers.{listed}
use Rattle.complex.specs.declared.Complex.{Complex}
use Rattle.complex.specs.Arithmetic.{◌+j◌, ◌⊗◌, conj, Σℤ<}
use Rattle.codes.specs.PackedSigns.{packed, sign_bit}
use Rattle.codes.specs.SyncCodes.{a, a_signs}

-- the sum of sixteen entries from `from` on, with the signs of a row
unfoldable pub signed_sum : List ℤ → ℕ → ℕ → ℤ
signed_sum x from row = Σℤ< 16 (λ i. sign_bit row i *ℤ get_or x (from + i) (pos 0))

-- the sums of each 16 of 256 chips with the signs of a row
abbrev pub part_sums : List ℤ → ℕ → List ℤ
part_sums x row = listed 16 (λ m. signed_sum x (m * 16) row)

-- from such sums of re and im, the correlation with a code whose parts have the signs of a row
unfoldable pub correlated : List ℤ → List ℤ → ℕ → Complex
correlated re im signs = (signed_sum re 0 signs +j signed_sum im 0 signs) ⊗ conj (pos 1 +j pos 1)

-- the correlation of one component with the signs of the primary code from p on
unfoldable pub primary_sum : List ℤ → ℕ → ℤ
primary_sum x p = Σℤ< 16 (λ m. sign_bit (packed a_signs) m *ℤ signed_sum x (p + m * 16) (packed a))
