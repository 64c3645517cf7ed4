-- The twelve instances of document 01. Assumes nothing.
use mathlib.Core.Path.{◌≡◌, refl}
use mathlib.Core.List.{map}
use lib.Count.{ones, ones_in}
use Rattle.complex.specs.Arithmetic.{real, 𝟎, 𝟏, 𝐣, ◌⊕◌, ◌⊗◌, conj, j^, Σ<}
use Rattle.complex.specs.Buffers.{listed, ◌at◌}
use Rattle.codes.specs.Range.{each}
use Rattle.codes.specs.Tree.{element, at_or_above, related}
use Rattle.codes.specs.Scrambling.{v, scrambling_element}
use Rattle.codes.specs.SyncCodes.{repeated, Cp, z, hadamard, is_sync_code, C}
use Rattle.codes.specs.Allocation.{code_set, allocation_row, signed, case_1, case_2, one_or_two, bad_frame_or_half, allocation}
use Rattle.modulation.specs.Symbols.{symbol}
use Rattle.slot.specs.Slot.{slot_parts, channel_chip, data_chip, sync_chip, slot_chip}
use Rattle.analyser_parts.specs.Choice.{smallest_from, has_largest}
use Rattle.read.specs.Reading.{reading}
use Rattle.harden.specs.Hardening.{pair_score, hard_pair, hard_bit}
use Rattle.demands.specs.Reference.{with_channel}
use Rattle.demands.specs.Instances.{Instance, table}

-- What the definitions give is what document 01 states, for each instance of the table.
pub instances : map (λ (i : Instance). i.computed) table ≡ map (λ (i : Instance). i.stated) table
unfolding table real 𝟎 𝟏 𝐣 ◌⊕◌ ◌⊗◌ conj j^ Σ< listed each ◌at◌ element at_or_above related v scrambling_element repeated Cp z hadamard ones ones_in is_sync_code C code_set allocation_row signed case_1 case_2 one_or_two bad_frame_or_half allocation symbol slot_parts channel_chip data_chip sync_chip slot_chip smallest_from has_largest reading pair_score hard_pair hard_bit with_channel
instances = refl
