-- Document 01, "The slot", and of "The sync burst" where the burst falls.
use Rattle.std.specs.Prelude.{pos, ℕ, ◌+◌, ◌*◌, ◌-◌, ◌/◌, ◌%◌, [], ◌∷◌, Bool, false, ◌&&◌, cond, ltb, leb, get_or}
use Rattle.std.proofs.Math.Option.{Option, none, some}
use Rattle.complex.specs.declared.Complex.{Complex}
use Rattle.complex.specs.Arithmetic.{real, 𝟎, ◌⊕◌, ◌⊗◌, Σ<}
use Rattle.codes.specs.Tree.{over_factors, element}
use Rattle.codes.specs.Scrambling.{scrambling_element, code_group}
use Rattle.codes.specs.Burst.{burst, burst_start}
use Rattle.modulation.specs.Symbols.{pair, symbol}
use Rattle.slot.specs.declared.parts.Parts.{Parts}
use Rattle.slot.specs.Setup.{ChannelSetup, SyncSetup, Setup}

-- A slot has 2,560 chips: field 1, midamble, field 2, guard.
abbrev pub slot_length : ℕ
slot_length = 2560

abbrev pub lengths : ℕ → ℕ → ℕ → ℕ → Parts
lengths f1 m f2 g = record { field1 = f1; midamble = m; field2 = f2; guard = g }

-- | burst type | field 1 | midamble | field 2 | guard |; a type that is not listed has no field
unfoldable pub slot_parts : ℕ → Parts
slot_parts t =
    get_or (
    lengths 0 0 0 2560 ∷
    lengths 976 512 976 96 ∷
    lengths 1104 256 1104 96 ∷
    lengths 976 512 880 192 ∷ []) t (lengths 0 0 0 2560)

-- F1 + F2, F1 and F2 being the field lengths of type t
abbrev pub data_chip_count : ℕ → ℕ
data_chip_count t = (slot_parts t).field1 + (slot_parts t).field2

-- A channel has 2(F1+F2)/Q bits.
abbrev pub bit_count : ℕ → ℕ → ℕ
bit_count t Q = 2 * data_chip_count t / Q

-- Chip q of a field (from 0) is, for one channel, gain × symbol (q div Q) × code element (q mod Q) × complex scrambling element 1 + (q mod 16).
-- The index restarts in each field; field 1's bits come first, then field 2's: `before` is the number of chips of the fields before this one.
unfoldable pub channel_chip : ℕ → ℕ → ℕ → ℕ → ℕ → Option ChannelSetup → Complex
channel_chip p before q Q k none = 𝟎
channel_chip p before q Q k (some c) =
    real (pos c.gain) ⊗ symbol (pair c.bits (before / Q + q / Q)) ⊗ real (element Q k (q % Q)) ⊗ scrambling_element p (1 + q % 16)

-- the sum over all codes
abbrev pub over_codes : (ℕ → ℕ → Complex) → Complex
over_codes f = over_factors ◌⊕◌ 𝟎 (λ Q. Σ< Q (f Q))

-- the sum over open channels
unfoldable pub data_chip : Setup → ℕ → ℕ → Complex
data_chip s before q = over_codes (λ Q k. channel_chip s.cell before q Q k (s.channel Q k))

-- the sync burst falls on chip x of the slot: 256 chips, from the burst start of the cell's group on
abbrev pub burst_falls_on : ℕ → Option SyncSetup → ℕ → Bool
burst_falls_on p none x = false
burst_falls_on p (some y) x = let start = burst_start (code_group p) in leb start x && ltb x (start + 256)

-- what the sync burst, unscrambled, adds to chip x of the slot
unfoldable pub sync_chip : ℕ → Option SyncSetup → ℕ → Complex
sync_chip p none x = 𝟎
sync_chip p (some y) x =
    let g = code_group p in
    cond (burst_falls_on p (some y) x) (burst y.case g y.frame y.half y.g_p y.g_s (x - burst_start g)) 𝟎

-- chip q of a field that starts at the slot's chip `start`: "the sum over open channels, plus the sync burst where it falls"
abbrev pub field_chip : Setup → ℕ → ℕ → ℕ → Complex
field_chip s before start q = data_chip s before q ⊕ sync_chip s.cell s.sync (start + q)

-- The slot's chip, number x, from 0; 0 past its end. Midamble and guard chips are 0; in type 1, which alone takes sync, a burst lies whole inside one field (`burst_inside`).
unfoldable pub slot_chip : Setup → ℕ → Complex
slot_chip s x =
    let t = slot_parts s.type in
    let second = t.field1 + t.midamble in
    cond (ltb x t.field1) (field_chip s 0 0 x)
    (cond (ltb x second) 𝟎
    (cond (ltb x (second + t.field2)) (field_chip s t.field1 second (x - second))
    𝟎))
