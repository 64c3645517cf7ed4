-- The table of gains: one entry a code of the tree, level by level.
use Rattle.std.specs.Prelude.{ℕ, ◌+◌, ◌-◌, Bool, not, List, eqb, get_or}

-- where the gain of code (Q, k) stands; it is 0 where the code is not open
abbrev pub node : ℕ → ℕ → ℕ
node Q k = Q - 1 + k

-- ---- what only the functions need
-- code (Q, k) is open in the gains
abbrev pub open_at : List ℕ → ℕ → ℕ → Bool
open_at gains Q k = not (eqb (get_or gains (node Q k) 0) 0)
