-- `silent` meets its contract. Assumes nothing.
use borrow.Author.Rules.{rules}
use Rattle.complex.specs.Arithmetic.{𝟎}
use Rattle.codes.proofs.burst.silent.Goals as goal

pub returns : goal.returns
unfolding 𝟎
returns c = search rules
