-- Document 01, "The list and its ledger": "The settings at a start are the copy that the ledger then makes. The chips drawn after a start are those
-- that draws write from then to the next accepted start or the list's end, in order, each as its draw left it."
use Rattle.std.specs.Prelude.{ℤ, ℕ, ◌≤◌, ◌≡◌, List, [], ◌∷◌, ◌++◌, Bool, true, false, cond, length}
use Rattle.std.proofs.Math.Option.{Option, none, some}
use Rattle.complex.specs.Buffers.{Values, in_buffers}
use Rattle.slot.specs.Setup.{Setup}
use Rattle.slot.specs.Slot.{slot_length, slot_chip}
use Rattle.demands.specs.Calls.{Call, set_cell, open_code, load_plan, close, set_gain, load_bits, set_sync, clear_sync, start, draw, BenchAnswer, accepted, refused_by, refused_record, drew}
use Rattle.demands.specs.Reference.{Reference, fresh_reference, reference_step, arguments}
use Rattle.demands.specs.Runs.{Run, answers_in}

-- an accepted start: "the settings at a start", and "the chips drawn after a start"
pub record AcceptedStart : Type 0 where
  pub settings : Setup
  pub chips : Values

-- an accepted start makes a copy (so there is one), and no chip is drawn yet
abbrev pub begun : Option Setup → List AcceptedStart → List AcceptedStart
begun none past = past
begun (some copy) past = record { settings = copy; chips = record { re = []; im = [] } } ∷ past

-- chips that a draw left come behind those drawn since the last accepted start
abbrev pub extended : Values → List AcceptedStart → List AcceptedStart
extended v [] = []
extended v (x ∷ past) = record { settings = x.settings; chips = record { re = x.chips.re ++ v.re; im = x.chips.im ++ v.im } } ∷ past

abbrev pub is_start : {B : Type 0} → Call B → Bool
is_start (set_cell p t) = false
is_start (open_code Q k g) = false
is_start (load_plan plan) = false
is_start (close Q k) = false
is_start (set_gain Q k g) = false
is_start (load_bits Q k bits) = false
is_start (set_sync case frame half g_p g_s) = false
is_start clear_sync = false
is_start start = true
is_start (draw re im) = false

-- the accepted starts after a call, by what the bench answered to it; `copy` is the ledger's after the call
abbrev pub starts_after : Option Setup → Bool → BenchAnswer → List AcceptedStart → List AcceptedStart
starts_after copy starts accepted past = cond starts (begun copy past) past
starts_after copy starts (refused_by n) past = past
starts_after copy starts (refused_record n place) past = past
starts_after copy starts (drew m v) past = extended v past

unfoldable pub starts_from : Reference → List AcceptedStart → List (Call (List ℤ)) → List BenchAnswer → List AcceptedStart
starts_from r past [] answers = past
starts_from r past (c ∷ cs) [] = past
starts_from r past (c ∷ cs) (a ∷ answers) =
    let next = (reference_step r (arguments c)).next in
    starts_from next (starts_after next.sending (is_start c) a past) cs answers

-- the accepted starts of a run, the last one first
abbrev pub accepted_starts : Run → List AcceptedStart
accepted_starts run = starts_from fresh_reference [] run.calls (answers_in run.steps)

-- "The chips drawn after an accepted start are, in order, those of the settings at that start": chips 0 to count - 1
pub record InOrder (x : AcceptedStart) : Type 0 where
  pub count : ℕ
  pub at_most : count ≤ slot_length
  pub chips : x.chips ≡ in_buffers count (slot_chip x.settings)

-- "no start was accepted yet or all 2,560 chips of the last accepted one are out"
abbrev pub NothingLeft : List AcceptedStart → Type 0
NothingLeft [] = Unit {0}
NothingLeft (x ∷ past) = length x.chips.re ≡ slot_length
