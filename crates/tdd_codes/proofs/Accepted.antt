-- A call whose `refusal` is 0 is accepted: no list of refusals has that number. Assumes nothing.
use mathlib.Core.Bool.{not}
use mathlib.Core.List.{[], ◌∷◌}
use Prim.Native.Nat.{ℕ}
use lib.Dec.{leb}
use Rattle.codes.specs.Calls.{code_group_call, element_call, related_call, scrambling_chip_call, allocation_call, burst_start_call, primary_chip_call, secondary_chip_call}
use Rattle.codes.specs.Refusals.{◌if◌}
use Rattle.codes.specs.Tree.{is_spreading_factor}
use Rattle.codes.specs.Allocation.{one_or_two, bad_frame_or_half}
use Rattle.codes.specs.SyncCodes.{is_sync_code}
use Rattle.codes.proofs.Refused.{numbered, 0_accepts, ZeroAccepts}

pub element_0 : (Q k chip : ℕ) → ZeroAccepts (element_call Q k chip)
unfolding numbered
element_0 Q k chip = 0_accepts _ (3 if not (is_spreading_factor Q) ∷ 4 if leb Q k ∷ 16 if leb Q chip ∷ []) tt

pub related_0 : (Q k Q' k' : ℕ) → ZeroAccepts (related_call Q k Q' k')
unfolding numbered
related_0 Q k Q' k' =
    0_accepts _ (3 if not (is_spreading_factor Q) ∷ 4 if leb Q k ∷ 3 if not (is_spreading_factor Q') ∷ 4 if leb Q' k' ∷ []) tt

pub code_group_0 : (p : ℕ) → ZeroAccepts (code_group_call p)
unfolding numbered
code_group_0 p = 0_accepts _ (1 if leb 128 p ∷ []) tt

pub scrambling_0 : (p chip : ℕ) → ZeroAccepts (scrambling_chip_call p chip)
unfolding numbered
scrambling_0 p chip = 0_accepts _ (1 if leb 128 p ∷ 16 if leb 16 chip ∷ []) tt

pub primary_0 : (chip : ℕ) → ZeroAccepts (primary_chip_call chip)
unfolding numbered
primary_0 chip = 0_accepts _ (16 if leb 256 chip ∷ []) tt

pub secondary_0 : (i chip : ℕ) → ZeroAccepts (secondary_chip_call i chip)
unfolding numbered
secondary_0 i chip = 0_accepts _ (16 if not (is_sync_code i) ∷ 16 if leb 256 chip ∷ []) tt

pub allocation_0 : (case g frame half : ℕ) → ZeroAccepts (allocation_call case g frame half)
unfolding numbered
allocation_0 case g frame half =
    0_accepts _ (1 if leb 32 g ∷ 14 if not (one_or_two case) ∷ 15 if bad_frame_or_half case frame half ∷ []) tt

pub burst_start_0 : (g : ℕ) → ZeroAccepts (burst_start_call g)
unfolding numbered
burst_start_0 g = 0_accepts _ (1 if leb 32 g ∷ []) tt
