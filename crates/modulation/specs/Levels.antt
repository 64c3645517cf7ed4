-- The levels of the code tree, as the enum `Level` has them. Nothing here is document 01's.
use Rattle.std.specs.Prelude.{ℕ}
use Rattle.modulation.specs.declared.data.Level.{Level}
use Rattle.modulation.specs.declared.data.Level.TheVariants.{Q1, Q2, Q4, Q8, Q16}

-- the spreading factor of its codes
abbrev pub factor : Level → ℕ
factor Q1 = 1
factor Q2 = 2
factor Q4 = 4
factor Q8 = 8
factor Q16 = 16
