-- Document 01, "Analyser calls": read (parameter, Q, k, field, two answer buffers).
use Rattle.std.specs.Prelude.{ℤ, ℕ, ◌+◌, ◌*◌, ◌/◌, ◌%◌, Bool, ◌||◌, not, List, [], ◌∷◌, eqb, leb, ltb, length}
use Rattle.complex.specs.declared.Complex.{Complex}
use Rattle.complex.specs.Arithmetic.{real, ◌⊗◌, conj, Σ<}
use Rattle.complex.specs.Buffers.{value, Values, in_buffers}
use Rattle.codes.specs.Tree.{is_spreading_factor, element}
use Rattle.codes.specs.Scrambling.{scrambling_element}
use Rattle.codes.specs.Refusals.{Answer, RefusalRule, ◌if◌, ◌otherwise◌}
use Rattle.analyser_parts.specs.Components.{outside, either_shorter}

-- Reading n is the sum over the n-th Q chips of chip × conj(complex scrambling element) × code element.
-- n counts from 0, and chip q of a field, from 0, has complex scrambling element 1 + (q mod 16).
unfoldable pub reading : ℕ → ℕ → ℕ → (ℕ → Complex) → ℕ → Complex
reading p Q k chip n = Σ< Q (λ i. chip (n * Q + i) ⊗ conj (scrambling_element p (1 + (n * Q + i) % 16)) ⊗ real (element Q k i))

abbrev pub longest_field : ℕ
longest_field = 1104

-- "length 0, above 1104 or no multiple of 16"
abbrev pub bad_field_length : ℕ → Bool
bad_field_length n = eqb n 0 || ltb longest_field n || not (eqb (n % 16) 0)

-- Refuses 1; 3; 4; 12; 16 length 0, above 1104 or no multiple of 16; 17 a component outside -100000 to 100000; 18 an answer buffer
-- shorter than length/Q. The answer buffers have m and m' entries.
abbrev pub read_refusals : ℕ → ℕ → ℕ → List ℤ → List ℤ → ℕ → ℕ → List RefusalRule
read_refusals p Q k re im m m' =
    1 if leb 128 p ∷
    3 if not (is_spreading_factor Q) ∷
    4 if leb Q k ∷
    12 if not (eqb (length re) (length im)) ∷
    16 if bad_field_length (length re) ∷
    17 if (outside re || outside im) ∷
    18 if either_shorter m m' (length re / Q) ∷ []

-- the answer: length/Q readings
abbrev pub read_call : ℕ → ℕ → ℕ → List ℤ → List ℤ → ℕ → ℕ → Answer Values
read_call p Q k re im m m' = read_refusals p Q k re im m m' otherwise in_buffers (length re / Q) (reading p Q k (value re im))
