-- Document 01, "Analyser calls": harden (readings, byte buffer).
use Rattle.std.specs.Prelude.{ℤ, pos, neg_ℤ, ℕ, ◌*◌, ◌/◌, ◌%◌, cond, not, List, [], ◌∷◌, eqb, ltb, length, get_or}
use Rattle.complex.specs.declared.Complex.{Complex}
use Rattle.complex.specs.Buffers.{value, listed}
use Rattle.codes.specs.Refusals.{Answer, RefusalRule, ◌if◌, ◌otherwise◌}
use Rattle.analyser_parts.specs.Choice.{smallest, has_largest}

-- For reading y the pairs 00, 01, 10, 11 score im, re, -re, -im;
unfoldable pub pair_score : Complex → ℕ → ℤ
pair_score y m = get_or (y.im ∷ y.re ∷ neg_ℤ y.re ∷ neg_ℤ y.im ∷ []) m (pos 0)

-- the largest wins, the earliest on a tie: the number, 0 to 3, of the pair
unfoldable pub hard_pair : Complex → ℕ
hard_pair y = smallest 4 (has_largest 4 (pair_score y))

-- two bytes each: byte b is the first bit of the pair of reading b div 2 where b is even, else the second
unfoldable pub hard_bit : (ℕ → Complex) → ℕ → ℕ
hard_bit y b = cond (eqb (b % 2) 0) (hard_pair (y (b / 2)) / 2) (hard_pair (y (b / 2)) % 2)

-- Refuses 12; 18 fewer than two bytes a reading. The byte buffer has m bytes.
abbrev pub harden_refusals : List ℤ → List ℤ → ℕ → List RefusalRule
harden_refusals re im m = 12 if not (eqb (length re) (length im)) ∷ 18 if ltb m (2 * length re) ∷ []

abbrev pub harden_call : List ℤ → List ℤ → ℕ → Answer (List ℕ)
harden_call re im m = harden_refusals re im m otherwise listed (2 * length re) (hard_bit (value re im))
