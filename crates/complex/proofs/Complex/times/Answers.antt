-- The product is written out as its definition has it. Assumes nothing.
use Rattle.std.proofs.Common.{rules}
use Rattle.complex.specs.Arithmetic.{◌⊗◌}
use Rattle.complex.proofs.Complex.times.Goals as goal

pub returns : goal.returns
unfolding ◌⊗◌
returns c = search rules
