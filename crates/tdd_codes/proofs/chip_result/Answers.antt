-- `chip_result` meets its contract. Assumes nothing.
use native.Mathlib.Omega.{arith}
use Rattle.std.proofs.lemmas.Grind.{common_steps}
use Rattle.complex.specs.Arithmetic.{𝟎}
use Rattle.tdd_codes.proofs.chip_result.Goals as goal

pub returns-clause-chip : goal.returns-clause-chip
unfolding 𝟎
returns-clause-chip c = grind (arith, common_steps)
