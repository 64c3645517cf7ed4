-- `symbol` meets its contract: the arms whose value is a constant of the type. Assumes nothing.
use Rattle.std.proofs.Common.{rules}
use Rattle.complex.specs.Arithmetic.{𝟎, 𝟏, 𝐣}
use Rattle.modulation.specs.Symbols.{symbol}
use Rattle.modulation.proofs.data.symbol.Goals as goal

pub returns-in-0 : goal.returns-in-0
unfolding symbol 𝐣
returns-in-0 c = search rules

pub returns-in-1 : goal.returns-in-1
unfolding symbol 𝟏
returns-in-1 c = search rules

pub returns-in_default : goal.returns-in_default
unfolding symbol 𝟎
returns-in_default c = search rules
