-- `silence` meets its contract: sixteen times 0. Assumes nothing.
use mathlib.Core.Path.{refl}
use Rattle.complex.specs.Arithmetic.{𝟎}
use Rattle.complex.specs.Buffers.{listed}
use Rattle.modulation.proofs.burst.silence.Goals as goal

pub returns : goal.returns
unfolding 𝟎 listed
returns c = refl
