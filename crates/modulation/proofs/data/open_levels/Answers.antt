-- `open_levels` meets its contract: one answer a level. Assumes nothing.
use Rattle.modulation.proofs.data.open_levels.Goals as goal

pub returns : goal.returns
returns c =
    λ j. record { q1 = c.is_any_open.ensures j; q2 = c.is_any_open-2.ensures j; q4 = c.is_any_open-3.ensures j; q8 = c.is_any_open-4.ensures j; q16 = c.is_any_open-5.ensures j }
