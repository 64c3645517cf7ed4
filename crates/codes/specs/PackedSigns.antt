-- How the functions hold signs: a row of them as one number, and the signs of powers of j. Nothing here is document 01's: the contracts of the
-- public calls do not name it.
use Rattle.std.specs.Prelude.{ℤ, pos, negsuc, neg_ℤ, ◌*ℤ◌, ℕ, ◌+◌, ◌*◌, ◌-◌, ◌/◌, ◌%◌, ◌^◌, List, [], ◌∷◌, map, cond, eqb, ltb}
use Rattle.complex.specs.Buffers.{◌at◌}
use Rattle.codes.specs.Range.{numbers_from}
use Rattle.codes.specs.Signs.{minus_if}
use Rattle.codes.specs.Tree.{code}
use Rattle.codes.specs.SyncCodes.{b_signs, hadamard}

-- a sign as a binary digit: 1 for 1 and 0 for -1
abbrev pub digit : ℤ → ℕ
digit (pos n) = 1
digit (negsuc n) = 0

abbrev pub packed_after : ℕ → List ℤ → ℕ
packed_after n [] = n
packed_after n (s ∷ l) = packed_after (2 * n + digit s) l

-- a row of signs as a binary number, the first sign first
abbrev pub packed : List ℤ → ℕ
packed l = packed_after 0 l

-- element i, from 0, of a row of 16 signs that is held so; 0 past its end
unfoldable pub sign_bit : ℕ → ℕ → ℤ
sign_bit row i = cond (ltb 15 i) (pos 0) (minus_if (eqb (row / 2 ^ (15 - i) % 2) 0))

-- s, with the sign of the conjugate of j^(i+1), which is -j, -1, j, 1, again and again
unfoldable pub signed_by_j : ℤ → ℕ → ℤ
signed_by_j s i = cond (ltb (i % 4) 2) (neg_ℤ s) s

-- the sixteen codes of Q 16, each held so
abbrev pub leaf_rows : List ℕ
leaf_rows = map (λ x. packed (code 16 x)) (numbers_from 0 16)

-- the signs of z over its sixteen parts times those of row 16i of the Hadamard matrix (`hadamard_part_is`): where secondary code i is listed,
-- the signs of its parts; 0 where i is above 15
unfoldable pub secondary_row : ℕ → ℕ
secondary_row i = cond (ltb i 16) (packed (map (λ m. b_signs at m *ℤ hadamard i m) (numbers_from 0 16))) 0
