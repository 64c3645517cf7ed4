-- `PlaceSigns::lane` meets its contract. Assumes nothing.
use mathlib.Core.Path.{ap₂, ◌∙◌}
use Rattle.complex.specs.Arithmetic.{◌⊕◌}
use Rattle.complex.specs.Fits.{Both}
use Rattle.complex.proofs.Components.{both-⊕, both_fits}
use Rattle.read.specs.Multipliers.{lane}
use Rattle.read.proofs.sixteen.PlaceSigns.lane.Goals as goal

pub plus-requires : goal.plus-requires
plus-requires c = both_fits (both-⊕ c.chip-a.ensures.size c.chip-b.ensures.size) tt

pub plus-requires-2 : goal.plus-requires-2
plus-requires-2 c =
    let two : Both 200000 c.plus.result = rw c.plus.ensures (both-⊕ c.chip-a.ensures.size c.chip-b.ensures.size) in
    both_fits (both-⊕ two c.chip-c.ensures.size) tt

pub plus-requires-3 : goal.plus-requires-3
plus-requires-3 c =
    let two : Both 200000 c.plus.result = rw c.plus.ensures (both-⊕ c.chip-a.ensures.size c.chip-b.ensures.size) in
    let three : Both 300000 c.plus-2.result = rw c.plus-2.ensures (both-⊕ two c.chip-c.ensures.size) in
    both_fits (both-⊕ three c.chip-d.ensures.size) tt

pub returns : goal.returns
unfolding lane
returns c =
    c.plus-3.ensures
    ∙ ap₂ ◌⊕◌ (c.plus-2.ensures ∙ ap₂ ◌⊕◌ (c.plus.ensures ∙ ap₂ ◌⊕◌ c.chip-a.ensures.is c.chip-b.ensures.is)
    c.chip-c.ensures.is) c.chip-d.ensures.is
