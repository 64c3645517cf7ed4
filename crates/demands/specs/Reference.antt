-- The reference model: document 01's ledger ("The list and its ledger"). "The ledger is fed the calls' arguments, for a draw the two buffer lengths,
-- and nothing that the bench holds or answers."
use Rattle.std.specs.Prelude.{ℕ, suc, ◌+◌, ◌-◌, min, List, [], ◌∷◌, Bool, ◌&&◌, cond, ℤ, eqb, length, replicate}
use Rattle.std.proofs.Math.Option.{Option, none, some}
use Rattle.complex.specs.declared.Complex.{Complex}
use Rattle.complex.specs.Arithmetic.{𝟎}
use Rattle.complex.specs.Buffers.{in_buffers}
use Rattle.codes.specs.Refusals.{Answer, refused, gives, ◌otherwise◌}
use Rattle.slot.specs.Setup.{ChannelSetup, SyncSetup, Setup, is_some}
use Rattle.slot.specs.Slot.{slot_length, bit_count, slot_chip}
use Rattle.bench.specs.declared.Channel.{Channel}
use Rattle.bench.specs.BenchCalls.{set_cell_refusals, open_refusals, AnswerAt, refused_at, loads, close_refusals, set_gain_refusals, load_bits_refusals, set_sync_refusals, start_refusals, draw_refusals}
use Rattle.demands.specs.Calls.{Call, set_cell, open_code, load_plan, close, set_gain, load_bits, set_sync, clear_sync, start, draw, BenchAnswer, accepted, refused_by, refused_record, drew, Step}

-- It has settings, a copy of settings or none (`sending`), and a tally (`sent`).
pub record Reference : Type 0 where
  pub settings : Setup
  pub sending : Option Setup
  pub sent : ℕ

-- Set cell (parameter, type) closes every code and clears sync.
abbrev pub cell_set : ℕ → ℕ → Setup
cell_set p t = record { cell = p; type = t; channel = λ Q k. none; sync = none }

-- At first the fresh settings (parameter 0, type 1, nothing open, no sync), no copy, tally 0.
abbrev pub fresh_reference : Reference
fresh_reference = record { settings = cell_set 0 1; sending = none; sent = 0 }

-- code (Q, k) holds c, all else stays
unfoldable pub with_channel : Setup → ℕ → ℕ → Option ChannelSetup → Setup
with_channel s Q k c =
    record { cell = s.cell; type = s.type; channel = λ Q' k'. cond (eqb Q' Q && eqb k' k) c (s.channel Q' k'); sync = s.sync }

-- Open (Q, k, gain) gives bits all 0.
abbrev pub opened : Setup → ℕ → ℕ → ℕ → Setup
opened s Q k g = with_channel s Q k (some (record { gain = g; bits = replicate (bit_count s.type Q) 0 }))

-- Close (Q, k).
abbrev pub closed : Setup → ℕ → ℕ → Setup
closed s Q k = with_channel s Q k none

-- what an open code holds is changed
abbrev pub channel_changed : (ChannelSetup → ChannelSetup) → Option ChannelSetup → Option ChannelSetup
channel_changed f none = none
channel_changed f (some c) = some (f c)

-- Set gain (Q, k, gain) keeps the bits.
abbrev pub gain_set : Setup → ℕ → ℕ → ℕ → Setup
gain_set s Q k g = with_channel s Q k (channel_changed (λ c. record { gain = g; bits = c.bits }) (s.channel Q k))

-- Load bits (Q, k, one byte a bit).
abbrev pub bits_loaded : Setup → ℕ → ℕ → List ℕ → Setup
bits_loaded s Q k bits = with_channel s Q k (channel_changed (λ c. record { gain = c.gain; bits = bits }) (s.channel Q k))

-- Set sync (case, frame, half, gP, gS), and clear sync
abbrev pub sync_changed : Setup → Option SyncSetup → Setup
sync_changed s y = record { cell = s.cell; type = s.type; channel = s.channel; sync = y }

-- "an empty list closes everything"
abbrev pub nothing_open : Setup → Setup
nothing_open s = record { cell = s.cell; type = s.type; channel = λ Q k. none; sync = s.sync }

-- Load plan refuses with 3, 4, 5, 6 as open would for the first record that fails, taken in order against earlier records only, and that record's
-- place. Places count from 0, bits start as all 0. Record after record, the first of them at `place`, each opened on what the earlier ones left:
unfoldable pub records_opened : ℕ → Setup → List Channel → AnswerAt Setup
records_opened place s [] = loads s
records_opened place s (c ∷ cs) =
    elim (open_refusals s c.q c.k c.gain otherwise opened s c.q c.k c.gain)
    [ refused n ↦ refused_at n place | gives next ↦ records_opened (suc place) next cs ]

-- "it replaces all open codes, or changes nothing" (`plan_step`)
abbrev pub plan_loaded : Setup → List Channel → AnswerAt Setup
plan_loaded s plan = records_opened 0 (nothing_open s) plan

-- Refusal conditions are tested on the ledger, where a slot is under way while there is a copy.
abbrev pub under_way : Reference → Bool
under_way r = is_some r.sending

abbrev pub settings_changed : Reference → Setup → Reference
settings_changed r s = record { settings = s; sending = r.sending; sent = r.sent }

-- A refused call gets its number, load plan the place too, and changes nothing (here, and in `plan_step`, `start_step` and `draw_step`). Each accepted call but
-- start and draw changes the settings by its entry.
abbrev pub entry_step : Reference → Answer Setup → Step Reference
entry_step r (refused n) = record { answer = refused_by n; next = r }
entry_step r (gives s) = record { answer = accepted; next = settings_changed r s }

abbrev pub plan_step : Reference → AnswerAt Setup → Step Reference
plan_step r (refused_at n place) = record { answer = refused_record n place; next = r }
plan_step r (loads s) = record { answer = accepted; next = settings_changed r s }

-- An accepted start makes the copy from the settings and sets the tally to 0.
abbrev pub start_step : Reference → Answer (Unit {0}) → Step Reference
start_step r (refused n) = record { answer = refused_by n; next = r }
start_step r (gives a) = record { answer = accepted; next = record { settings = r.settings; sending = some r.settings; sent = 0 } }

-- chip x of the copy's slot, numbered from 0; an accepted draw has a copy
abbrev pub copy_chip : Option Setup → ℕ → Complex
copy_chip none x = 𝟎
copy_chip (some s) x = slot_chip s x

-- An accepted draw of length n gets as its count m, the smaller of n and 2,560 less the tally, and the chips from tally to tally+m-1 of the copy's
-- slot. The tally grows by m, and at 2,560 the copy goes. (`reference_step` gives it m.)
abbrev pub draw_step : Reference → ℕ → Answer (Unit {0}) → Step Reference
draw_step r m (refused n) = record { answer = refused_by n; next = r }
draw_step r m (gives a) =
    record {
      answer = drew m (in_buffers m (λ i. copy_chip r.sending (r.sent + i)));
      next = record { settings = r.settings; sending = cond (eqb (r.sent + m) slot_length) none r.sending; sent = r.sent + m };
    }

unfoldable pub reference_step : Reference → Call ℕ → Step Reference
reference_step r (set_cell p t) = entry_step r (set_cell_refusals p t otherwise cell_set p t)
reference_step r (open_code Q k g) = let s = r.settings in entry_step r (open_refusals s Q k g otherwise opened s Q k g)
reference_step r (load_plan plan) = plan_step r (plan_loaded r.settings plan)
reference_step r (close Q k) = let s = r.settings in entry_step r (close_refusals s Q k otherwise closed s Q k)
reference_step r (set_gain Q k g) = let s = r.settings in entry_step r (set_gain_refusals s Q k g otherwise gain_set s Q k g)
reference_step r (load_bits Q k bits) = let s = r.settings in entry_step r (load_bits_refusals s Q k bits otherwise bits_loaded s Q k bits)
reference_step r (set_sync case frame half g_p g_s) =
    let s = r.settings in
    entry_step r (set_sync_refusals s case frame half g_p g_s otherwise
    sync_changed s (some (record { case = case; frame = frame; half = half; g_p = g_p; g_s = g_s })))
reference_step r clear_sync = entry_step r ([] otherwise sync_changed r.settings none)
reference_step r start = start_step r (start_refusals (under_way r) otherwise tt)
reference_step r (draw n n') = draw_step r (min n (slot_length - r.sent)) (draw_refusals (under_way r) n n' otherwise tt)

-- what "the ledger is fed": "the calls' arguments, for a draw the two buffer lengths"
unfoldable pub arguments : Call (List ℤ) → Call ℕ
arguments (set_cell p t) = set_cell p t
arguments (open_code Q k g) = open_code Q k g
arguments (load_plan plan) = load_plan plan
arguments (close Q k) = close Q k
arguments (set_gain Q k g) = set_gain Q k g
arguments (load_bits Q k bits) = load_bits Q k bits
arguments (set_sync case frame half g_p g_s) = set_sync case frame half g_p g_s
arguments clear_sync = clear_sync
arguments start = start
arguments (draw re im) = draw (length re) (length im)

-- what it answers to a list of calls, call by call
unfoldable pub answers_by : Reference → List (Call ℕ) → List BenchAnswer
answers_by r [] = []
answers_by r (c ∷ cs) = (reference_step r c).answer ∷ answers_by (reference_step r c).next cs

-- what it is after them
unfoldable pub left_after : Reference → List (Call ℕ) → Reference
left_after r [] = r
left_after r (c ∷ cs) = left_after (reference_step r c).next cs
