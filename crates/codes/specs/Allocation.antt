-- Document 01, "The sync burst": which codes a group sends, with which units (TS 25.223, tables 4 and 5).
use Rattle.std.specs.Prelude.{ℤ, ◌*ℤ◌, ℕ, ◌+◌, ◌/◌, ◌%◌, [], ◌∷◌, Bool, ◌&&◌, ◌||◌, cond, not, eqb, leb, ltb, get_or}
use Rattle.complex.specs.declared.Complex.{Complex}
use Rattle.complex.specs.Arithmetic.{real, 𝟎, 𝟏, 𝐣, ◌⊗◌}
use Rattle.codes.specs.Signs.{minus_if}
use Rattle.codes.specs.Tree.{among}
use Rattle.codes.specs.declared.ModulatedCode.{ModulatedCode}
use Rattle.codes.specs.declared.Allocated.{Allocated}
use Rattle.codes.specs.declared.burst.CodeSet.{CodeSet}
use Rattle.codes.specs.declared.burst.AllocationRow.{AllocationRow}

abbrev pub set_of : ℕ → ℕ → ℕ → CodeSet
set_of A B D = record { a = A; b = B; d = D }

-- Code sets (A, B, D): 1 is (1, 3, 5), 2 is (10, 13, 14), 3 is (0, 6, 12), 4 is (4, 8, 15); any other number, which no group has, gives (0, 0, 0).
unfoldable pub code_set : ℕ → CodeSet
code_set n = get_or (set_of 0 0 0 ∷ set_of 1 3 5 ∷ set_of 10 13 14 ∷ set_of 0 6 12 ∷ set_of 4 8 15 ∷ []) n (set_of 0 0 0)

-- Row 0 gives pair (A, B) with unit 1 and marker D; 1 gives (A, B) with j and D; 2 gives (A, D) with j and B; 3 gives (B, D) with j and A.
unfoldable pub allocation_row : ℕ → CodeSet → AllocationRow
allocation_row n s =
    get_or (
    record { first = s.a; second = s.b; unit = 𝟏; marker = s.d } ∷
    record { first = s.a; second = s.b; unit = 𝐣; marker = s.d } ∷
    record { first = s.a; second = s.d; unit = 𝐣; marker = s.b } ∷
    record { first = s.b; second = s.d; unit = 𝐣; marker = s.a } ∷ []) n
    (record { first = 0; second = 0; unit = 𝟎; marker = 0 })

abbrev pub with_unit : ℕ → Complex → ModulatedCode
with_unit i u = record { code = i; unit = u }

-- a row's three codes, each with its unit, for the signs of the pair and of the marker
unfoldable pub signed : AllocationRow → ℤ → ℤ → ℤ → Allocated
signed r s t m =
    record {
      first = with_unit r.first (real s ⊗ r.unit);
      second = with_unit r.second (real t ⊗ r.unit);
      marker = with_unit r.marker (real m);
    }

-- Case 1: set 1 + g div 16, r = g mod 16. Row r div 4. r mod 4 = 0, 1, 2, 3 signs the pair ++, +-, -+, --:
-- the first is negative for 2 and 3, the second for 1 and 3. The marker is +1 in frame 1, -1 in frame 2.
unfoldable pub case_1 : ℕ → ℕ → Allocated
case_1 g frame =
    let r = g % 16 in
    signed (allocation_row (r / 4) (code_set (1 + g / 16)))
    (minus_if (among (r % 4) (2 ∷ 3 ∷ []))) (minus_if (among (r % 4) (1 ∷ 3 ∷ []))) (minus_if (eqb frame 2))

-- Case 2: set 1 + g div 8, r = g mod 8, rows by r div 2 as above. The pair is ++ for even r, +- for odd r, both negated in frame 2.
-- The marker is +1 in half 0 (slot k), -1 in half 1 (slot k+8).
unfoldable pub case_2 : ℕ → ℕ → ℕ → Allocated
case_2 g frame half =
    let r = g % 8 in
    let f = minus_if (eqb frame 2) in
    signed (allocation_row (r / 2) (code_set (1 + g / 8)))
    f (f *ℤ minus_if (eqb (r % 2) 1)) (minus_if (eqb half 1))

-- as a case and a frame must be
unfoldable pub one_or_two : ℕ → Bool
one_or_two n = among n (1 ∷ 2 ∷ [])

-- "frame not 1 or 2, half above 1, or half 1 in case 1": refused 15
unfoldable pub bad_frame_or_half : ℕ → ℕ → ℕ → Bool
bad_frame_or_half case frame half = not (one_or_two frame) || ltb 1 half || (eqb half 1 && eqb case 1)

-- no code: what an allocation outside its range gives
abbrev pub silent : Allocated
silent = record { first = with_unit 0 𝟎; second = with_unit 0 𝟎; marker = with_unit 0 𝟎 }

-- the codes of group g in a case, a frame and a half, with their units; silent where one of them is outside its range
unfoldable pub allocation : ℕ → ℕ → ℕ → ℕ → Allocated
allocation case g frame half =
    cond (not (leb 32 g) && one_or_two case && not (bad_frame_or_half case frame half))
    (cond (eqb case 1) (case_1 g frame) (case_2 g frame half)) silent
