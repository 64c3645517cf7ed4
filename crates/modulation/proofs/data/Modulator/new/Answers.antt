use Rattle.modulation.proofs.ScramblingSigns.{scrambling_signs_bound}
use Rattle.modulation.proofs.data.Modulator.new.Goals as goal

pub invariant_of-result : goal.invariant_of-result
invariant_of-result c = record { levels_of_gains = c.open_levels.ensures; small_signs = scrambling_signs_bound _ c.scrambling_signs.ensures }
