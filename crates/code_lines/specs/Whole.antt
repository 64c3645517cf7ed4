-- How a whole code is refused (docs/TDD.md).
use Rattle.codes.specs.Refusals.{Answer, outcome}
use Rattle.codes.specs.Calls.{element_call, scrambling_chip_call, primary_chip_call, secondary_chip_call}
use Rattle.script.specs.declared.commands.WholeCode.{WholeCode}
use Rattle.script.specs.declared.commands.WholeCode.TheVariants.{Code, Scrambling, Primary, Secondary}

-- "A whole code is refused as its chip 0 would be": that call's refusal, or that it has none
abbrev pub outcome_of_chip_0 : WholeCode → Answer (Unit {0})
outcome_of_chip_0 (Code q k) = outcome (element_call q k 0)
outcome_of_chip_0 (Scrambling cell) = outcome (scrambling_chip_call cell.0 0)
outcome_of_chip_0 Primary = outcome (primary_chip_call 0)
outcome_of_chip_0 (Secondary number) = outcome (secondary_chip_call number 0)
