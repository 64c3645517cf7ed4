-- Document 01, "Analyser calls": refusal 17, "a component outside -100000 to 100000", and the lengths that 18 compares in read and find.
use Rattle.std.specs.Prelude.{ℤ, pos, neg_ℤ, ℕ, Bool, false, ◌&&◌, ◌||◌, not, List, [], ◌∷◌, ltb}
use Rattle.std.specs.Int.Signed.{le_z}

abbrev pub component_limit : ℕ
component_limit = 100000

-- x is from -100000 to 100000
abbrev pub in_range : ℤ → Bool
in_range x = le_z (neg_ℤ (pos component_limit)) x && le_z x (pos component_limit)

-- a component of the list is outside
unfoldable pub outside : List ℤ → Bool
outside [] = false
outside (x ∷ xs) = not (in_range x) || outside xs

-- one of two buffers, of m and m' entries, is shorter than n
abbrev pub either_shorter : ℕ → ℕ → ℕ → Bool
either_shorter m m' n = ltb m n || ltb m' n
