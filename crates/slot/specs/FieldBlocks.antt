-- How the functions make the chips of a slot, sixteen at a time. Nothing here is document 01's: the contracts of the bench's calls do not name it.
use Rattle.std.specs.Prelude.{ℤ, ℕ, ◌+◌, ◌-◌, ◌%◌, List}
use Rattle.complex.specs.declared.Complex.{Complex}
use Rattle.complex.specs.Arithmetic.{◌⊕◌}
use Rattle.modulation.specs.SixteenChips.{block_chip}
use Rattle.slot.specs.declared.Sync.{Sync}
use Rattle.slot.specs.Slot.{sync_chip}
use Rattle.slot.specs.View.{view_sync}

-- chip q of a field, with the burst's: as `field_chip`, from its block. `before` is how many chips the fields before it have, `start` the slot's chip at
-- which it starts
abbrev pub chip_by_blocks : List ℕ → List ℕ → ℕ → Sync → List ℤ → List ℤ → ℕ → ℕ → ℕ → Complex
chip_by_blocks gains pairs p sync t u before start q =
    block_chip gains pairs (before + (q - q % 16)) t u (q % 16) ⊕ sync_chip p (view_sync p sync) (start + q)
