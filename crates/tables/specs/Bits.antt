-- The bits of a load: the test of their bytes, and where they stand in the settings' table of pairs.
--
-- The table has 2,208 entries, one for each data chip of burst type 2, which has the most (2 × 1104), sixteen for each block of 16 chips, both fields in a row. An entry
-- is a pair of bits, as a number from 0 to 3. A code of factor Q sends 16/Q symbols in a block, so it has 16/Q entries there: code (Q, k) those from
-- k·16/Q on. Code (4, 1), say, has entries 4 to 7 of each block, which are its pairs 0 to 3, then 4 to 7, and so on. Where two codes are unrelated,
-- no entry is one of both.
use Rattle.std.specs.Prelude.{ℕ, ◌+◌, ◌*◌, ◌/◌, ◌%◌, List, Bool, cond, eqb, ltb, length, get_or}
use Rattle.complex.specs.Buffers.{listed}
use Rattle.codes.specs.Range.{any}
use Rattle.codes.specs.Tree.{width}
use Rattle.modulation.specs.Symbols.{pair}

-- "a byte above 1"
abbrev pub has_byte_above_1 : List ℕ → Bool
has_byte_above_1 bits = any (length bits) (λ i. ltb 1 (get_or bits i 0))

-- entry i of the table, which is entry i mod 16 of its block, is one of code (Q, k)
abbrev pub is_entry_of : ℕ → ℕ → ℕ → Bool
is_entry_of Q k i = eqb (i % 16 / width Q) k

-- and it is this pair of that code, from 0: each block before it has 16/Q of them
abbrev pub pair_of_entry : ℕ → ℕ → ℕ
pair_of_entry Q i = i / 16 * width Q + i % 16 % width Q

-- the table once code (Q, k) has these bits, 0 past their end; the entries of other codes stay
unfoldable pub pairs_with_bits : List ℕ → ℕ → ℕ → List ℕ → List ℕ
pairs_with_bits pairs Q k bits = listed 2208 (λ i. cond (is_entry_of Q k i) (pair bits (pair_of_entry Q i)) (get_or pairs i 0))
