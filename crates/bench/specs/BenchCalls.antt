-- Document 01, "Bench calls". Each call is its refusals, in the document's order, then its change. A refusal that asks for settings speaks of the
-- document's own (`Setup`, by `view`).
use Rattle.std.specs.Prelude.{ℕ, Result, Ok, Err, suc, ◌+◌, ◌-◌, min, List, [], ◌∷◌, Bool, false, not, ◌&&◌, ◌||◌, cond, eqb, leb, length, replicate}
use Rattle.complex.specs.Buffers.{Values, in_buffers}
use Rattle.codes.specs.declared.CellParameter.{CellParameter}
use Rattle.codes.specs.Answers.{number_of}
use Rattle.codes.specs.Range.{any}
use Rattle.codes.specs.Refusals.{Answer, refused, gives, RefusalRule, ◌if◌, ◌otherwise◌, after}
use Rattle.codes.specs.Tree.{among, is_spreading_factor, over_factors, related}
use Rattle.codes.specs.Allocation.{one_or_two, bad_frame_or_half}
use Rattle.slot.specs.declared.Settings.{Settings}
use Rattle.slot.specs.Setup.{Setup, is_open}
use Rattle.slot.specs.Slot.{slot_length, bit_count, slot_chip}
use Rattle.slot.specs.View.{view}
use Rattle.tables.specs.Bits.{has_byte_above_1}
use Rattle.bench.specs.declared.Bench.{Bench}
use Rattle.bench.specs.declared.Channel.{Channel}
use Rattle.bench.specs.declared.PlanRefusal.{PlanRefusal}
use Rattle.bench.specs.Changes.{with_gain, with_bits, with_sync, no_sync, cell_settings, all_closed, with_settings}

-- "the air: no slot, or a copy of the settings with a position": the copy is `sending`, and counts while `running` is not 0
abbrev pub is_running : Bench → Bool
is_running b = not (eqb b.running 0)

-- Fresh: parameter 0, type 1, nothing open, no sync, no slot.
abbrev pub fresh_settings : Settings
fresh_settings = cell_settings (record { 0 = 0 }) 1 (replicate 2208 0)

abbrev pub fresh : Bench
fresh = record { settings = fresh_settings; running = 0; sending = fresh_settings; position = 0 }

-- the bench that a call leaves where it finds b
abbrev pub left_by : Answer Bench → Bench → Bench
left_by r b = after r b (λ new. new)

-- Set cell (parameter, type) closes every code and clears sync. Refuses 1 parameter above 127; 2 type not 1, 2, 3.
abbrev pub set_cell_refusals : ℕ → ℕ → List RefusalRule
set_cell_refusals p t = 1 if leb 128 p ∷ 2 if not (among t (1 ∷ 2 ∷ 3 ∷ [])) ∷ []

abbrev pub set_cell_call : Bench → CellParameter → ℕ → Answer Bench
set_cell_call b p t = set_cell_refusals p.0 t otherwise with_settings b (cell_settings p t b.settings.pairs)

-- "gain not 1 to 4095"
abbrev pub bad_gain : ℕ → Bool
bad_gain g = not (leb 1 g && leb g 4095)

-- a test passes at some code
abbrev pub some_code : (ℕ → ℕ → Bool) → Bool
some_code f = over_factors ◌||◌ false (λ Q. any Q (f Q))

-- "related to an open code"
abbrev pub related_to_open : Setup → ℕ → ℕ → Bool
related_to_open s Q k = some_code (λ Q' k'. is_open s Q' k' && related Q' k' Q k)

-- Open (Q, k, gain) gives bits all 0. Refuses 3 bad Q; 4 k not below Q; 5 gain not 1 to 4095; 6 related to an open code.
abbrev pub open_refusals : Setup → ℕ → ℕ → ℕ → List RefusalRule
open_refusals s Q k g = 3 if not (is_spreading_factor Q) ∷ 4 if leb Q k ∷ 5 if bad_gain g ∷ 6 if related_to_open s Q k ∷ []

abbrev pub open_call : Bench → ℕ → ℕ → ℕ → Answer Bench
open_call b Q k g =
    open_refusals (view b.settings) Q k g otherwise with_settings b (with_bits (with_gain b.settings Q k g) Q k [])

-- the answer of load plan, whose refusal has a place too
pub data AnswerAt (A : Type 0) : Type 0 where
  refused_at : (number place : ℕ) → AnswerAt A
  loads : A → AnswerAt A

-- open for record after record, the first of them at `place`, each on the bench that the earlier ones left
unfoldable pub opened_in_order : ℕ → Bench → List Channel → AnswerAt Bench
opened_in_order place b [] = loads b
opened_in_order place b (c ∷ cs) =
    elim (open_call b c.q c.k c.gain) [ refused n ↦ refused_at n place | gives next ↦ opened_in_order (suc place) next cs ]

-- Load plan: a plan comes as a lent list of channel records (Q, k, gain); it replaces all open codes, or changes nothing (`plan_left_by`). Refuses with
-- 3, 4, 5, 6 as open would for the first record that fails, taken in order against earlier records only, and that record's place. Places count from
-- 0, bits start as all 0, and an empty list closes everything.
abbrev pub load_plan_call : Bench → List Channel → AnswerAt Bench
load_plan_call b plan = opened_in_order 0 (with_settings b (all_closed b.settings)) plan

-- the answer of load plan: number and place, or nothing more
abbrev pub plan_outcome : AnswerAt Bench → AnswerAt (Unit {0})
plan_outcome (refused_at n place) = refused_at n place
plan_outcome (loads new) = loads tt

-- what load plan leaves where it finds b
abbrev pub plan_left_by : AnswerAt Bench → Bench → Bench
plan_left_by (refused_at n place) b = b
plan_left_by (loads new) b = new

-- Close (Q, k). Refuses 3; 4; 7 code not open.
abbrev pub close_refusals : Setup → ℕ → ℕ → List RefusalRule
close_refusals s Q k = 3 if not (is_spreading_factor Q) ∷ 4 if leb Q k ∷ 7 if not (is_open s Q k) ∷ []

abbrev pub close_call : Bench → ℕ → ℕ → Answer Bench
close_call b Q k = close_refusals (view b.settings) Q k otherwise with_settings b (with_gain b.settings Q k 0)

-- Set gain (Q, k, gain) keeps the bits. Refuses 3; 4; 5; 7.
abbrev pub set_gain_refusals : Setup → ℕ → ℕ → ℕ → List RefusalRule
set_gain_refusals s Q k g = 3 if not (is_spreading_factor Q) ∷ 4 if leb Q k ∷ 5 if bad_gain g ∷ 7 if not (is_open s Q k) ∷ []

abbrev pub set_gain_call : Bench → ℕ → ℕ → ℕ → Answer Bench
set_gain_call b Q k g = set_gain_refusals (view b.settings) Q k g otherwise with_settings b (with_gain b.settings Q k g)

-- Load bits (Q, k, one byte a bit). Refuses 3; 4; 7; 8 count not as above; 9 a byte above 1
-- (`has_byte_above_1`, in `tables`, whose functions test it).
abbrev pub load_bits_refusals : Setup → ℕ → ℕ → List ℕ → List RefusalRule
load_bits_refusals s Q k bits =
    3 if not (is_spreading_factor Q) ∷
    4 if leb Q k ∷
    7 if not (is_open s Q k) ∷
    8 if not (eqb (length bits) (bit_count s.type Q)) ∷
    9 if has_byte_above_1 bits ∷ []

abbrev pub load_bits_call : Bench → ℕ → ℕ → List ℕ → Answer Bench
load_bits_call b Q k bits =
    load_bits_refusals (view b.settings) Q k bits otherwise with_settings b (with_bits b.settings Q k bits)

-- Set sync (case, frame, half, gP, gS); the group is the cell's. Refuses 13 type not 1; 14 case not 1 or 2; 15 frame not 1 or 2, half above 1,
-- or half 1 in case 1; 5 either gain.
abbrev pub set_sync_refusals : Setup → ℕ → ℕ → ℕ → ℕ → ℕ → List RefusalRule
set_sync_refusals s case frame half g_p g_s =
    13 if not (eqb s.type 1) ∷
    14 if not (one_or_two case) ∷
    15 if bad_frame_or_half case frame half ∷
    5 if (bad_gain g_p || bad_gain g_s) ∷ []

abbrev pub set_sync_call : Bench → ℕ → ℕ → ℕ → ℕ → ℕ → Answer Bench
set_sync_call b case frame half g_p g_s =
    set_sync_refusals (view b.settings) case frame half g_p g_s otherwise
    with_settings b (with_sync b.settings (record { on = 1; case = case; frame = frame; half = half; gp = g_p; gs = g_s }))

-- Clear sync refuses nothing.
abbrev pub clear_sync_call : Bench → Answer Bench
clear_sync_call b = [] otherwise with_settings b (with_sync b.settings no_sync)

-- Start copies settings to the air, position 0. Refuses 10 slot under way.
abbrev pub start_refusals : Bool → List RefusalRule
start_refusals slot-under-way = 10 if slot-under-way ∷ []

abbrev pub start_call : Bench → Answer Bench
start_call b =
    start_refusals (is_running b) otherwise
    (record { settings = b.settings; running = 1; sending = b.settings; position = 0 })

-- Draw (re buffer, im buffer) writes the next chips, as many as the smaller of buffer length and chips left. Later entries stay (`written`, in
-- draw's contract). It returns that count; after the last chip there is no slot. Length 0 returns 0. Refuses 11 no slot under way; 12 buffer
-- lengths differ.
pub record AcceptedDraw : Type 0 where
  pub count : ℕ
  pub chips : Values
  pub bench : Bench

abbrev pub draw_refusals : Bool → ℕ → ℕ → List RefusalRule
draw_refusals slot-under-way n n' = 11 if not slot-under-way ∷ 12 if not (eqb n n') ∷ []

-- m more chips are out; after the last chip there is no slot
abbrev pub moved_on : Bench → ℕ → Bench
moved_on b m =
    record {
      settings = b.settings;
      running = cond (leb slot_length (b.position + m)) 0 b.running;
      sending = b.sending;
      position = b.position + m;
    }

abbrev pub draw_call : Bench → ℕ → ℕ → Answer AcceptedDraw
draw_call b n n' =
    let m = min n (slot_length - b.position) in
    draw_refusals (is_running b) n n' otherwise
    (record { count = m; chips = in_buffers m (λ i. slot_chip (view b.sending) (b.position + i)); bench = moved_on b m })

-- ---- document 01's number and place for a refused plan
abbrev pub answer_of_plan : Result (Unit {0}) PlanRefusal → AnswerAt (Unit {0})
answer_of_plan (Ok a) = loads a
answer_of_plan (Err r) = refused_at (number_of r.refusal) r.place

-- ---- the answer of a draw: its refusal, or its count
abbrev pub draw_outcome : Answer AcceptedDraw → Answer ℕ
draw_outcome (refused n) = refused n
draw_outcome (gives d) = gives d.count
