-- Every answer of a call has a `Result` that stands for it: each number in its list of refusals is a refusal's. Assumes nothing.
use Rattle.std.proofs.Common.{◌≡◌, refl, sym, ap, ◌∙◌, ℕ, suc, Bool, true, false, List, [], ◌∷◌, Result, Ok, Err}
use lib.IntN.{ℤ}
use lib.Dec.{T, eqb, eqb→eq}
use mathlib.Core.Bool.{◌&&◌, cond}
use mir.Facts.{and_yes}
use Rattle.codes.specs.Answers.{answer_of, number_of}
use Rattle.codes.specs.Refusals.{Answer, refused, gives, RefusalRule, ◌otherwise◌, outcome}
use Rattle.codes.specs.declared.CellParameter.{CellParameter}
use Rattle.codes.specs.declared.refusal.Refusal.{Refusal}
use Rattle.codes.specs.declared.refusal.Refusal.TheVariants.{CellOrGroup, BurstType, SpreadingFactor, CodeIndex, Gain, Related, NotOpen, BitCount, BitValue, SlotUnderWay, NoSlot, LengthsDiffer, BurstTypeNot1, SyncCase, FrameOrHalf, LengthChipOrSyncCode, Component, BufferTooShort, NoBestFit}
use Rattle.slot.specs.View.{view}
use Rattle.bench.specs.declared.Bench.{Bench}
use Rattle.bench.specs.declared.Channel.{Channel}
use Rattle.bench.specs.declared.PlanRefusal.{PlanRefusal}
use Rattle.bench.specs.BenchCalls.{AnswerAt, refused_at, answer_of_plan, clear_sync_call, close_call, close_refusals, draw_call, draw_outcome, draw_refusals, is_running, load_bits_call, load_bits_refusals, load_plan_call, open_call, open_refusals, opened_in_order, plan_outcome, set_cell_call, set_cell_refusals, set_gain_call, set_gain_refusals, set_sync_call, set_sync_refusals, start_call, start_refusals}
use Rattle.bench.specs.Changes.{all_closed, with_settings}
use Rattle.read.specs.Reading.{read_call, read_refusals}
use Rattle.harden.specs.Hardening.{harden_call, harden_refusals}
use Rattle.read_sync.specs.declared.Candidate.{Candidate}
use Rattle.read_sync.specs.SyncReading.{read_sync_call, read_sync_refusals}

-- the refusal with this number, if there is one
abbrev refusals : List Refusal
refusals =
    CellOrGroup ∷ BurstType ∷ SpreadingFactor ∷ CodeIndex ∷ Gain ∷ Related ∷ NotOpen ∷ BitCount ∷ BitValue ∷ SlotUnderWay ∷ NoSlot ∷ LengthsDiffer ∷ BurstTypeNot1 ∷
    SyncCase ∷ FrameOrHalf ∷ LengthChipOrSyncCode ∷ Component ∷ BufferTooShort ∷ NoBestFit ∷ []

abbrev found : ℕ → List Refusal → Refusal
found n [] = CellOrGroup
found n (x ∷ xs) = cond (eqb (number_of x) n) x (found n xs)

abbrev numbered : ℕ → Refusal
numbered n = found n refusals

-- each number of the list is a refusal's
abbrev all_known : List RefusalRule → Bool
all_known [] = true
all_known (r ∷ rs) = eqb (number_of (numbered r.number)) r.number && all_known rs

-- a result for what h makes of the answer, where it keeps refusals
module _ {A B : Type 0} (h : Answer A → Answer B) (keeps : (n : ℕ) → h (refused n) ≡ refused n) (a : A) (b : B) (given : h (gives a) ≡ gives b) where
  result_for : (rs : List RefusalRule) → T (all_known rs) → (r : Result B Refusal) × (answer_of r ≡ h (rs otherwise a))
  result_for [] t = (Ok b, sym given)
  result_for (r ∷ rs) t = go r.condition (and_yes _ (all_known rs) t) (result_for rs)
    where
      go : (c : Bool) → T (eqb (number_of (numbered r.number)) r.number) × T (all_known rs)
          → (T (all_known rs) → (x : Result B Refusal) × (answer_of x ≡ h (rs otherwise a)))
          → (x : Result B Refusal) × (answer_of x ≡ h (cond c (refused r.number) (rs otherwise a)))
      go true u f = (Err (numbered r.number), ap (λ (n : ℕ). refused n) (eqb→eq _ _ u.0) ∙ sym (keeps r.number))
      go false u f = f u.1

abbrev pub Told : {A : Type 0} → Answer A → Type 0
Told a = (r : Result (Unit {0}) Refusal) × (answer_of r ≡ outcome a)

call_told : {A : Type 0} (a : A) (rs : List RefusalRule) → T (all_known rs) → Told (rs otherwise a)
call_told a rs t = result_for outcome (λ n. refl) a tt refl rs t

module _ (b : Bench) where
  pub set_cell_told : (p : CellParameter) (t : ℕ) → Told (set_cell_call b p t)
  set_cell_told p t = call_told _ (set_cell_refusals p.0 t) tt

  pub open_told : (Q k g : ℕ) → Told (open_call b Q k g)
  open_told Q k g = call_told _ (open_refusals (view b.settings) Q k g) tt

  pub close_told : (Q k : ℕ) → Told (close_call b Q k)
  close_told Q k = call_told _ (close_refusals (view b.settings) Q k) tt

  pub set_gain_told : (Q k g : ℕ) → Told (set_gain_call b Q k g)
  set_gain_told Q k g = call_told _ (set_gain_refusals (view b.settings) Q k g) tt

  pub load_bits_told : (Q k : ℕ) (bits : List ℕ) → Told (load_bits_call b Q k bits)
  load_bits_told Q k bits = call_told _ (load_bits_refusals (view b.settings) Q k bits) tt

  pub set_sync_told : (case frame half g_p g_s : ℕ) → Told (set_sync_call b case frame half g_p g_s)
  set_sync_told case frame half g_p g_s = call_told _ (set_sync_refusals (view b.settings) case frame half g_p g_s) tt

  pub clear_sync_told : Told (clear_sync_call b)
  clear_sync_told = (Ok tt, refl)

  pub start_told : Told (start_call b)
  start_told = call_told _ (start_refusals (is_running b)) tt

  pub draw_told : (n n' : ℕ) → (r : Result ℕ Refusal) × (answer_of r ≡ draw_outcome (draw_call b n n'))
  draw_told n n' = result_for draw_outcome (λ m. refl) _ _ refl (draw_refusals (is_running b) n n') tt

-- load plan's refusals are open's
abbrev pub PlanTold : AnswerAt Bench → Type 0
PlanTold a = (r : Result (Unit {0}) PlanRefusal) × (answer_of_plan r ≡ plan_outcome a)

in_order_told : (place : ℕ) (b : Bench) (plan : List Channel) → PlanTold (opened_in_order place b plan)
unfolding opened_in_order
in_order_told place b [] = (Ok tt, refl)
in_order_told place b (c ∷ cs) = go (open_call b c.q c.k c.gain) (open_told b c.q c.k c.gain) (λ next. in_order_told (suc place) next cs)
  where
    at_place : (n : ℕ) (r : Result (Unit {0}) Refusal) → answer_of r ≡ refused n → PlanTold (refused_at n place)
    at_place n (Ok u) e = absurd cc
    at_place n (Err x) e = let m : number_of x ≡ n = cc in (Err (record { refusal = x; place = place }), ap (λ (i : ℕ). refused_at i place) m)

    go : (a : Answer Bench) → Told a → ((next : Bench) → PlanTold (opened_in_order (suc place) next cs))
        → PlanTold (elim a [ refused n ↦ refused_at n place | gives next ↦ opened_in_order (suc place) next cs ])
    go (refused n) r more = at_place n r.0 r.1
    go (gives next) r more = more next

pub load_plan_told : (b : Bench) (plan : List Channel) → PlanTold (load_plan_call b plan)
load_plan_told b plan = in_order_told 0 (with_settings b (all_closed b.settings)) plan

pub read_told : (p Q k : ℕ) (re im : List ℤ) (m m' : ℕ) → Told (read_call p Q k re im m m')
read_told p Q k re im m m' = call_told _ (read_refusals p Q k re im m m') tt

pub harden_told : (re im : List ℤ) (m : ℕ) → Told (harden_call re im m)
harden_told re im m = call_told _ (harden_refusals re im m) tt

pub read_sync_told : (case : ℕ) (re im : List ℤ) → (r : Result Candidate Refusal) × (answer_of r ≡ read_sync_call case re im)
read_sync_told case re im = result_for (λ a. a) (λ n. refl) _ _ refl (read_sync_refusals case re im) tt
