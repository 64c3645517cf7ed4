-- Document 01, "Analyser calls": find (recording of n chips, two scratch buffers).
use Rattle.std.specs.Prelude.{◌≡◌, ℤ, ℕ, ◌+◌, ◌-◌, ◌||◌, not, List, [], ◌∷◌, eqb, ltb, length}
use Rattle.complex.specs.declared.Complex.{Complex}
use Rattle.complex.specs.Arithmetic.{squared_size}
use Rattle.complex.specs.Buffers.{value}
use Rattle.codes.specs.Refusals.{Answer, refused, gives, RefusalRule, ◌if◌, ◌otherwise◌}
use Rattle.analyser_parts.specs.Choice.{smallest, has_largest}
use Rattle.analyser_parts.specs.Components.{outside, either_shorter}
use Rattle.analyser_parts.specs.Correlation.{P}
use Rattle.find.specs.declared.Peak.{Peak}

-- the squared size of P over the 256 chips from a start on
unfoldable pub size_from : (ℕ → Complex) → ℕ → ℤ
size_from chip start = squared_size (P (λ n. chip (start + n)))

-- how many starts of 256 chips a recording of n chips has
abbrev pub start_count : ℕ → ℕ
start_count n = n - 255

-- the smallest start of 256 chips whose P has the largest squared size,
abbrev pub best_start : (ℕ → Complex) → ℕ → ℕ
best_start chip n = smallest (start_count n) (has_largest (start_count n) (size_from chip))

-- and that size as computed from the chips
abbrev pub peak : (ℕ → Complex) → ℕ → Peak
peak chip n = record { start = best_start chip n; size = size_from chip (best_start chip n) }

abbrev pub shortest_recording : ℕ
shortest_recording = 256

abbrev pub longest_recording : ℕ
longest_recording = 5120

abbrev pub scratch_length : ℕ → ℕ
scratch_length n = n - 15

-- Refuses 12; 16 n below 256 or above 5120; 17; 18 a scratch buffer shorter than n-15. The scratch buffers have m and m' entries.
abbrev pub find_refusals : List ℤ → List ℤ → ℕ → ℕ → List RefusalRule
find_refusals re im m m' =
    12 if not (eqb (length re) (length im)) ∷
    16 if (ltb (length re) shortest_recording || ltb longest_recording (length re)) ∷
    17 if (outside re || outside im) ∷
    18 if either_shorter m m' (scratch_length (length re)) ∷ []

abbrev pub find_call : List ℤ → List ℤ → ℕ → ℕ → Answer Peak
find_call re im m m' = find_refusals re im m m' otherwise peak (value re im) (length re)

-- "After an accepted find the scratch contents are free": only their length stays; after a refusal they are as they were.
abbrev pub ScratchLeft : {A : Type 0} → Answer A → List ℤ → List ℤ → Type 0
ScratchLeft (refused n) old new = new ≡ old
ScratchLeft (gives a) old new = length new ≡ length old
