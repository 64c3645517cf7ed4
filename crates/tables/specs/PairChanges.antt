-- How the functions change the table of pairs, part by part and leaf by leaf. Nothing here is document 01's: the contracts of the bench's calls do not name it.
use Rattle.std.specs.Prelude.{ℕ, ◌+◌, ◌-◌, ◌%◌, Bool, false, ◌&&◌, cond, List, leb, ltb, get_or}
use Rattle.complex.specs.Buffers.{listed}
use Rattle.codes.specs.Range.{any}
use Rattle.tables.specs.OpenCodes.{is_leaf_open}

-- the pairs, the w entries from `at` on replaced by f 0, f 1, ..
unfoldable pub with_part : List ℕ → ℕ → ℕ → (ℕ → ℕ) → List ℕ
with_part pairs at w f = listed 2208 (λ i. cond (leb at i && ltb i (at + w)) (f (i - at)) (get_or pairs i 0))

-- the pairs, the entries of these leaves cleared in every block
unfoldable pub cleared : List ℕ → List Bool → List ℕ
cleared pairs leaves = listed 2208 (λ i. cond (get_or leaves (i % 16) false) 0 (get_or pairs i 0))

-- the pairs, those of every open code cleared; as they were where none is open
unfoldable pub with_open_cleared : List ℕ → List ℕ → List ℕ
with_open_cleared gains pairs = cond (any 16 (is_leaf_open gains)) (cleared pairs (listed 16 (is_leaf_open gains))) pairs
