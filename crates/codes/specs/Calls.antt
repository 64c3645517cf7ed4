-- The unit's public calls. Document 01: "The unit's public calls refuse 3 and 4 for each code in turn, then 1 (also for a code group above
-- 31), 14 and 15, as below, then 16 for a chip index past the code's end or a sync code number not listed." Chip indices count from 0:
-- scrambling chip 0 is the document's element 1.
use Rattle.std.specs.Prelude.{ℤ, ℕ, ◌+◌, [], ◌∷◌, Bool, not, leb}
use Rattle.complex.specs.declared.Complex.{Complex}
use Rattle.codes.specs.Refusals.{Answer, ◌if◌, ◌otherwise◌}
use Rattle.codes.specs.Tree.{is_spreading_factor, element, related}
use Rattle.codes.specs.Scrambling.{scrambling_element, code_group}
use Rattle.codes.specs.declared.Allocated.{Allocated}
use Rattle.codes.specs.SyncCodes.{Cp, C, is_sync_code}
use Rattle.codes.specs.Allocation.{allocation, one_or_two, bad_frame_or_half}
use Rattle.codes.specs.Burst.{burst_start}

-- element of a channelisation code
abbrev pub element_call : ℕ → ℕ → ℕ → Answer ℤ
element_call Q k chip = 3 if not (is_spreading_factor Q) ∷ 4 if leb Q k ∷ 16 if leb Q chip ∷ [] otherwise element Q k chip

-- related
abbrev pub related_call : ℕ → ℕ → ℕ → ℕ → Answer Bool
related_call Q k Q' k' =
    3 if not (is_spreading_factor Q) ∷ 4 if leb Q k ∷ 3 if not (is_spreading_factor Q') ∷ 4 if leb Q' k' ∷ [] otherwise related Q k Q' k'

-- code group of a cell parameter
abbrev pub code_group_call : ℕ → Answer ℕ
code_group_call p = 1 if leb 128 p ∷ [] otherwise code_group p

-- scrambling chip
abbrev pub scrambling_chip_call : ℕ → ℕ → Answer Complex
scrambling_chip_call p chip = 1 if leb 128 p ∷ 16 if leb 16 chip ∷ [] otherwise scrambling_element p (chip + 1)

-- primary sync chip
abbrev pub primary_chip_call : ℕ → Answer Complex
primary_chip_call chip = 16 if leb 256 chip ∷ [] otherwise Cp chip

-- secondary sync chip
abbrev pub secondary_chip_call : ℕ → ℕ → Answer Complex
secondary_chip_call i chip = 16 if not (is_sync_code i) ∷ 16 if leb 256 chip ∷ [] otherwise C i chip

-- allocation: three code numbers, each with its unit
abbrev pub allocation_call : ℕ → ℕ → ℕ → ℕ → Answer Allocated
allocation_call case g frame half =
    1 if leb 32 g ∷ 14 if not (one_or_two case) ∷ 15 if bad_frame_or_half case frame half ∷ []
    otherwise allocation case g frame half

-- burst start
abbrev pub burst_start_call : ℕ → Answer ℕ
burst_start_call g = 1 if leb 32 g ∷ [] otherwise burst_start g
