-- How the bench's struct holds document 01's settings. `view` gives them back: no definition of the slot or of a refusal knows the tables.
use Rattle.std.specs.Prelude.{ℕ, zero, suc, ◌+◌, ◌*◌, ◌/◌, ◌%◌, List, ◌||◌, cond, eqb, leb, get_or}
use Rattle.std.proofs.Math.Option.{Option, none, some}
use Rattle.complex.specs.Buffers.{listed}
use Rattle.codes.specs.Tree.{is_code, width}
use Rattle.modulation.specs.Nodes.{node}
use Rattle.slot.specs.declared.Settings.{Settings}
use Rattle.slot.specs.declared.Sync.{Sync}
use Rattle.slot.specs.Setup.{ChannelSetup, SyncSetup, Setup}
use Rattle.slot.specs.Slot.{bit_count}

-- Pairs of bits stand block by block of 16 chips, both fields in a row. In a block code (Q, k) owns 16/Q entries from k·16/Q on,
-- so unrelated codes never overlap: the entry of pair n of code (Q, k)
abbrev pub entry_of_pair : ℕ → ℕ → ℕ → ℕ
entry_of_pair Q k n = 16 * (n / width Q) + k * width Q + n % width Q

-- bit i of code (Q, k): an entry is the pair's number, its first bit written first
abbrev pub held_bit : List ℕ → ℕ → ℕ → ℕ → ℕ
held_bit pairs Q k i = let n = get_or pairs (entry_of_pair Q k (i / 2)) 0 in cond (eqb (i % 2) 0) (n / 2) (n % 2)

abbrev pub held_channel : ℕ → List ℕ → Option ChannelSetup
held_channel zero bits = none
held_channel (suc g) bits = some (record { gain = suc g; bits = bits })

-- a parameter above 127, which no call sets, is in none of the groups 0 to 31, so it has no burst
unfoldable pub view_sync : ℕ → Sync → Option SyncSetup
view_sync p y =
    cond (eqb y.on 0 || leb 128 p) none
    (some (record { case = y.case; frame = y.frame; half = y.half; g_p = y.gp; g_s = y.gs }))

unfoldable pub view_channel : Settings → ℕ → ℕ → Option ChannelSetup
view_channel s Q k =
    cond (is_code Q k)
    (held_channel (get_or s.gains (node Q k) 0) (listed (bit_count s.kind Q) (held_bit s.pairs Q k)))
    none

unfoldable pub view : Settings → Setup
view s = record { cell = s.cell.0; type = s.kind; channel = view_channel s; sync = view_sync s.cell.0 s.sync }
