-- `row_of` meets its contract. Assumes nothing.
use native.Mathlib.Omega.{arith}
use Rattle.std.proofs.lemmas.Grind.{common_steps}
use Rattle.complex.specs.Arithmetic.{𝟎, 𝟏, 𝐣}
use Rattle.codes.specs.Allocation.{allocation_row}
use Rattle.codes.proofs.burst.row_of.Goals as goal

pub returns : goal.returns
unfolding allocation_row 𝟎 𝟏 𝐣
returns c = grind (arith, common_steps)
