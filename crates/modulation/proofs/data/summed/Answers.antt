-- `summed` meets its contract: five levels, each at most twice as large as the one before and a gain. Assumes nothing.
use mathlib.Core.Path.{ap}
use native.Mathlib.Omega.{arith}
use Rattle.complex.specs.Fits.{Bound}
use Rattle.complex.proofs.Bounds.{bound_more, bound_zeros}
use Rattle.modulation.specs.declared.data.OpenLevels.{OpenLevels}
use Rattle.modulation.proofs.Climbing.{climbed_all}
use Rattle.modulation.proofs.data.summed.Goals as goal
use Rattle.modulation.proofs.data.summed.Goals.{After-climbed-x16, After-climbed-x2, After-climbed-x4, After-climbed-x8}

size_16 : (c : After-climbed-x16) → Bound 65535 c.climbed-x16.result
size_16 c = c.climbed-x16.ensures.size 0 (omega arith) (bound_zeros 0)

size_8 : (c : After-climbed-x8) → Bound 196605 c.climbed-x8.result
size_8 c = c.climbed-x8.ensures.size 65535 (omega arith) (size_16 c.before.before)

size_4 : (c : After-climbed-x4) → Bound 458745 c.climbed-x4.result
size_4 c = c.climbed-x4.ensures.size 196605 (omega arith) (size_8 c.before.before)

size_2 : (c : After-climbed-x2) → Bound 983025 c.climbed-x2.result
size_2 c = c.climbed-x2.ensures.size 458745 (omega arith) (size_4 c.before.before)

pub climbed-x16-requires : goal.climbed-x16-requires
climbed-x16-requires c = (ap (λ (l : OpenLevels). l.q16) c.requires.0, c.requires.1, bound_zeros 983025)

pub climbed-x8-requires : goal.climbed-x8-requires
climbed-x8-requires c = (ap (λ (l : OpenLevels). l.q8) c.requires.0, c.requires.1, bound_more (size_16 (goal.at.climbed-x8-requires c).After-climbed-x16) 983025 (omega arith))

pub climbed-x4-requires : goal.climbed-x4-requires
climbed-x4-requires c = (ap (λ (l : OpenLevels). l.q4) c.requires.0, c.requires.1, bound_more (size_8 (goal.at.climbed-x4-requires c).After-climbed-x8) 983025 (omega arith))

pub climbed-x2-requires : goal.climbed-x2-requires
climbed-x2-requires c = (ap (λ (l : OpenLevels). l.q2) c.requires.0, c.requires.1, bound_more (size_4 (goal.at.climbed-x2-requires c).After-climbed-x4) 983025 (omega arith))

pub climbed-requires : goal.climbed-requires
climbed-requires c = (ap (λ (l : OpenLevels). l.q1) c.requires.0, c.requires.1, size_2 (goal.at.climbed-requires c).After-climbed-x2)

pub returns : goal.returns
returns c =
    let a = c.args in record { entries = climbed_all a.gains.now a.s.now _ c.climbed-x16.ensures.entries c.climbed-x8.ensures.entries c.climbed-x4.ensures.entries c.climbed-x2.ensures.entries c.climbed.ensures.entries; size = c.climbed.ensures.size 983025 (omega arith) (size_2 (goal.at.returns c).After-climbed-x2) }
