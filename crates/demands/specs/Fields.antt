-- Document 01, "The list and its ledger": a data field drawn whole and read, and what demands 2 and 3 say of it.
use Rattle.std.specs.Prelude.{ℤ, pos, ℕ, ◌+◌, ◌*◌, ◌/◌, ◌≤◌, ◌≡◌, Bool, true, not, List, ◌++◌, length, take, drop}
use Rattle.std.proofs.Math.Option.{none, some}
use Rattle.complex.specs.declared.Complex.{Complex}
use Rattle.complex.specs.Arithmetic.{real, 𝟎, ◌⊕◌, ◌⊗◌, Σℤ<, squared_size}
use Rattle.complex.specs.Buffers.{value, Values, in_buffers}
use Rattle.codes.specs.Range.{each}
use Rattle.modulation.specs.Symbols.{pair, symbol}
use Rattle.slot.specs.declared.parts.Parts.{Parts}
use Rattle.slot.specs.Setup.{ChannelSetup, Setup}
use Rattle.slot.specs.Slot.{slot_parts, burst_falls_on, sync_chip, slot_chip}
use Rattle.bench.specs.BenchCalls.{related_to_open}
use Rattle.orthogonality.specs.Gains.{squared_gains}
use Rattle.demands.specs.Reference.{sync_changed}
use Rattle.demands.specs.AnalyserRuns.{Output, RanRead, RanHarden, wrote, wrote_bits}
use Rattle.demands.specs.AcceptedStarts.{AcceptedStart}

-- the two data fields of a slot
pub data Field : Type 0 where
  field_1 : Field
  field_2 : Field

abbrev pub length_of : Parts → Field → ℕ
length_of t field_1 = t.field1
length_of t field_2 = t.field2

-- the chip of the slot at which a field starts
abbrev pub start_of : Parts → Field → ℕ
start_of t field_1 = 0
start_of t field_2 = t.field1 + t.midamble

-- the number of chips of the fields before it
abbrev pub before_of : Parts → Field → ℕ
before_of t field_1 = 0
before_of t field_2 = t.field1

abbrev pub field_length : Setup → Field → ℕ
field_length s f = length_of (slot_parts s.type) f

abbrev pub field_start : Setup → Field → ℕ
field_start s f = start_of (slot_parts s.type) f

abbrev pub chips_before : Setup → Field → ℕ
chips_before s f = before_of (slot_parts s.type) f

-- n entries of a list, from entry `at` on
abbrev pub entries_from : {A : Type 0} → ℕ → ℕ → List A → List A
entries_from at n l = take n (drop at l)

-- the chips from chip x to chip x + n - 1 of the slot are drawn: they come in order from chip 0 on (`in_order`), so it is enough to count them.
-- "A stretch of 16 data chips counts once all 16 are drawn"
abbrev pub AreDrawn : AcceptedStart → ℕ → ℕ → Type 0
AreDrawn slot x n = x + n ≤ length slot.chips.re

-- "A field is drawn whole when all its chips are among them."
abbrev pub DrawnWhole : AcceptedStart → Field → Type 0
DrawnWhole slot f = let s = slot.settings in AreDrawn slot (field_start s f) (field_length s f)

-- n chips of the slot from chip x on, and a field, as they were drawn, in two buffers that "hold them in order"
abbrev pub chips_from : AcceptedStart → ℕ → ℕ → Values
chips_from slot x n = record { re = entries_from x n slot.chips.re; im = entries_from x n slot.chips.im }

abbrev pub drawn_field : AcceptedStart → Field → Values
drawn_field slot f = let s = slot.settings in chips_from slot (field_start s f) (field_length s f)

abbrev pub reading_count : Setup → Field → ℕ → ℕ
reading_count s f Q = field_length s f / Q

-- "answer buffers that suffice"
pub record Suffice (s : Setup) (f : Field) (Q : ℕ) (out : Values) : Type 0 where
  pub re : reading_count s f Q ≤ length out.re
  pub im : reading_count s f Q ≤ length out.im

-- The chips of a field read: "It is read from two buffers that hold them in order, for any code, with answer buffers that suffice", and "with that start's
-- cell parameter". `read` is what the function read answered and left there.
pub record FieldRead (s : Setup) (f : Field) (Q k : ℕ) (chips : Values) : Type 0 where
  pub out : Values
  pub suffice : Suffice s f Q out
  pub read : Output Values
  pub ran : RanRead s.cell Q k chips out read

-- its readings: the first entries of the answer buffers as read left them
abbrev pub readings : {s : Setup} {f : Field} {Q k : ℕ} {chips : Values} → FieldRead s f Q k chips → Values
readings {s} {f} {Q} {k} {chips} x = let n = reading_count s f Q in record { re = take n x.read.left.re; im = take n x.read.left.im }

-- "A code's own symbols are those of that field, the n-th for reading n."
abbrev pub own_symbol : Setup → Field → ℕ → ChannelSetup → ℕ → Complex
own_symbol s f Q c n = symbol (pair c.bits (chips_before s f / Q + n))

-- "each reading of a code open at that start is its spreading factor times its gain times its own symbol"
abbrev pub symbol_readings : Setup → Field → ℕ → ChannelSetup → Values
symbol_readings s f Q c = in_buffers (reading_count s f Q) (λ n. real (pos Q) ⊗ real (pos c.gain) ⊗ own_symbol s f Q c n)

-- "a code unrelated to all of those": no open code is related to it
abbrev pub unrelated : Setup → ℕ → ℕ → Bool
unrelated s Q k = not (related_to_open s Q k)

-- "and each of a code unrelated to all of those is zero"
abbrev pub zero_readings : Setup → Field → ℕ → Values
zero_readings s f Q = in_buffers (reading_count s f Q) (λ n. 𝟎)

-- ---- the sync burst
-- no burst falls on the n chips of the slot from chip x on
abbrev pub no_burst : Setup → ℕ → ℕ → Bool
no_burst s x n = each n (λ i. not (burst_falls_on s.cell s.sync (x + i)))

-- "that field with the burst's chips alone, 0 around them"
abbrev pub burst_field : Setup → Field → Values
burst_field s f = in_buffers (field_length s f) (λ q. sync_chip s.cell s.sync (field_start s f + q))

-- "A sync burst's own reading is what the same read gives for" it
abbrev pub burst_own_reading : {s : Setup} {f : Field} {Q k : ℕ} → FieldRead s f Q k (burst_field s f) → Values
burst_own_reading x = readings x

-- that field of the same settings without sync
abbrev pub quiet_field : Setup → Field → Values
quiet_field s f = in_buffers (field_length s f) (λ q. slot_chip (sync_changed s none) (field_start s f + q))

-- two lists of n values, added one by one
abbrev pub added : ℕ → Values → Values → Values
added n v w = in_buffers n (λ i. value v.re v.im i ⊕ value w.re w.im i)

-- "A sync burst adds exactly its own reading.", which "is what the same read gives for that field with the burst's chips alone": x is the field read as it was
-- drawn, quiet without sync, burst with the burst's chips alone; read accepts all three
pub record BurstAdds (s : Setup) (f : Field) (Q k : ℕ) (drawn : Values) (x : FieldRead s f Q k drawn) (quiet : FieldRead s f Q k (quiet_field s f)) (burst : FieldRead s f Q k (burst_field s f)) : Type 0 where
  pub quiet_accepted : quiet.read ≡ wrote (readings quiet) quiet.out
  pub burst_accepted : burst.read ≡ wrote (burst_own_reading burst) burst.out
  pub sum : x.read ≡ wrote (added (reading_count s f Q) (readings quiet) (burst_own_reading burst)) x.out
  -- where the code is open, and where it is unrelated to all open ones
  pub if_open : (c : ChannelSetup) → s.channel Q k ≡ some c → readings quiet ≡ symbol_readings s f Q c
  pub if_unrelated : unrelated s Q k ≡ true → readings quiet ≡ zero_readings s f Q

-- ---- power, hard bits
-- "the squared components of each 16 data chips add up to": those from chip x of the slot on, as they were drawn (`AreDrawn`; the theorem
-- `power` says from which chips of a field on).
abbrev pub power_of_16_chips : AcceptedStart → ℕ → ℤ
power_of_16_chips slot x = Σℤ< 16 (λ i. squared_size (value slot.chips.re slot.chips.im (x + i)))

-- "16 times the sum of the squared gains", which are "those of the codes open at that start"
abbrev pub power_due : Setup → ℤ
power_due s = pos (16 * squared_gains s)

-- the bits of a channel that a field sends: field 1's come first, then field 2's
abbrev pub field_bits : Setup → Field → ℕ → ChannelSetup → List ℕ
field_bits s f Q c = entries_from (2 * (chips_before s f / Q)) (2 * reading_count s f Q) c.bits

-- The chips of a field read, and the readings hardened into a byte buffer that suffices: `hardened` is what the function harden answered and left there.
pub record FieldHardened (s : Setup) (f : Field) (Q k : ℕ) (chips : Values) : Type 0 where
  pub field : FieldRead s f Q k chips
  pub bits : List ℕ
  pub suffice : 2 * reading_count s f Q ≤ length bits
  pub hardened : Output (List ℕ)
  pub ran : RanHarden (readings field) bits hardened

-- "hardening the readings of a channel .. yields the bits it held when that slot started": read wrote the channel's own readings, and harden the bits that
-- the field sends
pub record HardBits (s : Setup) (f : Field) (Q k : ℕ) (chips : Values) (c : ChannelSetup) (x : FieldHardened s f Q k chips) : Type 0 where
  pub read_wrote : x.field.read ≡ wrote (symbol_readings s f Q c) x.field.out
  pub harden_wrote : x.hardened ≡ wrote_bits (field_bits s f Q c) x.bits

-- of both fields: one after the other, they are all of its bits
pub record AllHardBits (s : Setup) (Q k : ℕ) (chips : Field → Values) (c : ChannelSetup) (x : (f : Field) → FieldHardened s f Q k (chips f)) : Type 0 where
  pub each_field : (f : Field) → HardBits s f Q k (chips f) c (x f)
  pub all : field_bits s field_1 Q c ++ field_bits s field_2 Q c ≡ c.bits
