-- Document 01, "The sync burst": the primary and the secondary codes (TS 25.223, 7.1).
use Rattle.std.specs.Prelude.{ℤ, pos, neg_ℤ, ◌*ℤ◌, ℕ, ◌*◌, ◌/◌, ◌%◌, List, [], ◌∷◌, ◌++◌, map, Bool, ◌&&◌, cond, eqb, ltb, take, drop}
use Rattle.std.specs.Int.Bits.{bit_and}
use Rattle.std.specs.Int.Count.{ones}
use Rattle.complex.specs.declared.Complex.{Complex}
use Rattle.complex.specs.Arithmetic.{◌+j◌, real, 𝟎, ◌⊗◌}
use Rattle.complex.specs.Buffers.{◌at◌}
use Rattle.codes.specs.Signs.{signs, minus_if}
use Rattle.codes.specs.Tree.{among}

-- a = 1 1 1 1 1 1 -1 -1 1 -1 1 -1 1 -1 -1 1.
abbrev pub a : List ℤ
a = signs "++++++--+-+-+--+"

-- element n of the sequence x repeated 16 times with signs s
unfoldable pub repeated : List ℤ → List ℤ → ℕ → ℤ
repeated x s n = s at (n / 16) *ℤ x at (n % 16)

-- The primary code Cp is (1+j) times a repeated 16 times with signs + + + - - + - - + + + - + - + +.
abbrev pub a_signs : List ℤ
a_signs = signs "+++--+--+++-+-++"

unfoldable pub Cp : ℕ → Complex
Cp n = real (repeated a a_signs n) ⊗ (pos 1 +j pos 1)

-- b is a with its last eight elements negated;
abbrev pub b : List ℤ
b = take 8 a ++ map neg_ℤ (drop 8 a)

-- z is b repeated with signs + + + - + + - - + - + - - - - -.
abbrev pub b_signs : List ℤ
b_signs = signs "+++-++--+-+-----"

unfoldable pub z : ℕ → ℤ
z n = repeated b b_signs n

-- the 256-row Hadamard matrix, whose element (m, n) is -1 when m and n share an odd number of set bits, else 1
unfoldable pub hadamard : ℕ → ℕ → ℤ
hadamard m n = minus_if (eqb (ones (bit_and m n) % 2) 1)

-- i is one of 0, 1, 3, 4, 5, 6, 8, 10, 12, 13, 14, 15.
abbrev pub sync_codes : List ℕ
sync_codes = 0 ∷ 1 ∷ 3 ∷ 4 ∷ 5 ∷ 6 ∷ 8 ∷ 10 ∷ 12 ∷ 13 ∷ 14 ∷ 15 ∷ []

unfoldable pub is_sync_code : ℕ → Bool
is_sync_code i = among i sync_codes

-- Ci is (1+j) times z times row 16i of that matrix; 0 where i is none of these.
unfoldable pub C : ℕ → ℕ → Complex
C i n = cond (is_sync_code i) (real (z n *ℤ hadamard (16 * i) n) ⊗ (pos 1 +j pos 1)) 𝟎

-- ---- the codes by parts of 16 chips
-- the sign of row 16i of the matrix over part m, chips 16m to 16m + 15, where it does not change; 0 where i or m is above 15
unfoldable pub hadamard_part : ℕ → ℕ → ℤ
hadamard_part i m = cond (ltb i 16 && ltb m 16) (hadamard (16 * i) (16 * m)) (pos 0)
