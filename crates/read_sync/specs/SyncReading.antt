-- Document 01, "Analyser calls": read sync (case, 256 chips).
use Rattle.std.specs.Prelude.{ℤ, ◌+ℤ◌, ℕ, ◌+◌, ◌/◌, ◌%◌, ◌||◌, not, cond, List, [], ◌∷◌, eqb, length}
use Rattle.complex.specs.declared.Complex.{Complex}
use Rattle.complex.specs.Arithmetic.{◌⊗◌, conj}
use Rattle.complex.specs.Buffers.{value}
use Rattle.codes.specs.Refusals.{Answer, RefusalRule, ◌if◌, ◌otherwise◌}
use Rattle.codes.specs.declared.ModulatedCode.{ModulatedCode}
use Rattle.codes.specs.declared.Allocated.{Allocated}
use Rattle.codes.specs.Allocation.{allocation, one_or_two}
use Rattle.analyser_parts.specs.Choice.{smallest, beats_others}
use Rattle.analyser_parts.specs.Components.{outside}
use Rattle.analyser_parts.specs.Correlation.{S, P}
use Rattle.read_sync.specs.declared.Candidate.{Candidate}

-- a candidate: a group, a frame and a half
abbrev pub candidate_for : ℕ → ℕ → ℕ → Candidate
candidate_for g f h = record { group = record { 0 = g }; frame = f; half = h }

-- Each group, frame and half of the case is a candidate (half 0 alone in case 1): 32 groups with two frames, in case 2 with two halves each.
abbrev pub candidate_count : ℕ → ℕ
candidate_count case = cond (eqb case 1) 64 128

-- number n of them, from 0: group by group, in a group frame by frame, in a frame half by half (`has_number` in the crate demands: each one has its number)
unfoldable pub candidate : ℕ → ℕ → Candidate
candidate case n = cond (eqb case 1) (candidate_for (n / 2) (1 + n % 2) 0) (candidate_for (n / 4) (1 + n / 2 % 2) (n % 2))

-- the codes that a candidate sends
abbrev pub candidate_codes : ℕ → Candidate → Allocated
candidate_codes case c = allocation case c.group.0 c.frame c.half

-- what one code adds to a score
unfoldable pub share : (ℕ → Complex) → ModulatedCode → ℤ
share chip m = (S chip m.code ⊗ conj m.unit ⊗ conj (P chip)).re

abbrev pub total_share : (ℕ → Complex) → Allocated → ℤ
total_share chip s = share chip s.first +ℤ share chip s.second +ℤ share chip s.marker

-- Its score is the sum over its three codes of the real part of S(i) × conj(u) × conj(P).
unfoldable pub score : ℕ → (ℕ → Complex) → ℕ → ℤ
score case chip n = total_share chip (candidate_codes case (candidate case n))

-- The one that beats every other is the answer; where none does, this is the number of candidates.
abbrev pub winner : ℕ → (ℕ → Complex) → ℕ
winner case chip = smallest (candidate_count case) (beats_others (candidate_count case) (score case chip))

abbrev pub sync_length : ℕ
sync_length = 256

-- Refuses 14; 12; 16 length not 256; 17; 19 where no candidate beats all others, and only there.
abbrev pub read_sync_refusals : ℕ → List ℤ → List ℤ → List RefusalRule
read_sync_refusals case re im =
    14 if not (one_or_two case) ∷
    12 if not (eqb (length re) (length im)) ∷
    16 if not (eqb (length re) sync_length) ∷
    17 if (outside re || outside im) ∷
    19 if eqb (winner case (value re im)) (candidate_count case) ∷ []

abbrev pub read_sync_call : ℕ → List ℤ → List ℤ → Answer Candidate
read_sync_call case re im = read_sync_refusals case re im otherwise candidate case (winner case (value re im))
