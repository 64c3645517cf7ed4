-- The accepted starts so far, call after call: the chips drawn after each are in order those of its settings, and a draw is refused 11 exactly where none
-- is left. Assumes nothing.
use lib.IntN.{ℤ}
use mathlib.Core.Path.{◌≡◌, refl, sym, ap, ap₂, subst, ◌∙◌}
use mathlib.Core.Logic.{◌↔◌}
use mathlib.Core.Bool.{Bool, true, false, not, cond}
use mathlib.Core.List.{List, [], ◌∷◌, Memᴰ}
use mathlib.Core.Option.{Option, none, some, none-ne-some, some-ne-none, some-injective}
use Prim.Native.Nat.{ℕ, ◌+◌, ◌-◌, min}
use native.Mathlib.Omega.{arith}
use borrow.Author.Tests.{eqb-true}
use lib.Dec.{eqb}
use lib.ListN.{length}
use Rattle.complex.specs.Buffers.{Values, listed, in_buffers}
use Rattle.complex.proofs.Lists.{length_listed, listed-++}
use Rattle.codes.specs.Refusals.{Answer, refused, gives, ◌if◌, ◌otherwise◌}
use Rattle.slot.specs.Setup.{Setup}
use Rattle.slot.specs.Slot.{slot_length, slot_chip}
use Rattle.bench.specs.declared.Bench.{Bench}
use Rattle.bench.specs.BenchCalls.{set_cell_refusals, open_refusals, AnswerAt, refused_at, loads, close_refusals, set_gain_refusals, load_bits_refusals, set_sync_refusals}
use Rattle.demands.specs.Calls.{Call, set_cell, open_code, load_plan, close, set_gain, load_bits, set_sync, clear_sync, start, draw, refused_by, Step}
use Rattle.demands.specs.Reference.{Reference, cell_set, opened, closed, gain_set, bits_loaded, sync_changed, plan_loaded, settings_changed, entry_step, plan_step, draw_step, reference_step, arguments}
use Rattle.demands.specs.AcceptedStarts.{AcceptedStart, extended, is_start, starts_after, InOrder, NothingLeft}
use Rattle.demands.specs.Runs.{Ran}
use Rattle.demands.specs.Valid.{Valid, ValidReference}
use Rattle.demands.proofs.Steps.{reference_of, step_of, ValidBench, ran_steps}

-- ---- what holds of each accepted start
pub record Good (x : AcceptedStart) : Type 0 where
  pub in_order : InOrder x
  pub valid : Valid x.settings

abbrev pub All : (AcceptedStart → Type 0) → List AcceptedStart → Type 0
All P [] = Unit {0}
All P (x ∷ xs) = P x × All P xs

pub all_at : (P : AcceptedStart → Type 0) {x : AcceptedStart} {l : List AcceptedStart} → Memᴰ x l → All P l → P x
all_at P (Memᴰ.head e) a = subst P (sym e) a.0
all_at P (Memᴰ.tail m) a = all_at P m a.1

-- what the reference model has of the last one: the copy while chips are left, and how many are out
pub record Last (r : Reference) (x : AcceptedStart) : Type 0 where
  pub copy : r.sending ≡ cond (eqb r.sent slot_length) none (some x.settings)
  pub chips : x.chips ≡ in_buffers r.sent (slot_chip x.settings)
  pub valid : Valid x.settings

-- and of all
abbrev pub Recorded : Reference → List AcceptedStart → Type 0
Recorded r [] = r.sending ≡ none
Recorded r (x ∷ past) = Last r x × All Good past

pub all_good : (r : Reference) → ValidReference r → (past : List AcceptedStart) → Recorded r past → All Good past
all_good r v [] h = tt
all_good r v (x ∷ past) h = (record { in_order = record { count = r.sent; at_most = v.at_most; chips = h.0.chips }; valid = h.0.valid }, h.1)

-- ---- one call
-- what is recorded looks at the copy and the tally alone
other_settings : (r : Reference) (s : Setup) (past : List AcceptedStart) → Recorded r past → Recorded (settings_changed r s) past
other_settings r s [] h = h
other_settings r s (x ∷ past) h = (record { copy = h.0.copy; chips = h.0.chips; valid = h.0.valid }, h.1)

-- the step, with what it adds to the slots
abbrev pub Kept : List AcceptedStart → Bool → Step Reference → Type 0
Kept past t y = Recorded y.next (starts_after y.next.sending t y.answer past)

module _ (r : Reference) (past : List AcceptedStart) (h : Recorded r past) where
  entry_kept : (x : Answer Setup) → Kept past false (entry_step r x)
  entry_kept (refused n) = h
  entry_kept (gives s) = other_settings r s past h

  plan_kept : (x : AnswerAt Setup) → Kept past false (plan_step r x)
  plan_kept (refused_at n place) = h
  plan_kept (loads s) = other_settings r s past h

abbrev model : Setup → Option Setup → ℕ → Reference
model s o n = record { settings = s; sending = o; sent = n }

start_kept : (s : Setup) (o : Option Setup) (n : ℕ) → ValidReference (model s o n) → (past : List AcceptedStart) → Recorded (model s o n) past
    → Kept past true (reference_step (model s o n) start)
unfolding reference_step listed
start_kept s none n v past h = (record { copy = refl; chips = refl; valid = v.settings }, all_good (model s none n) v past h)
start_kept s (some c) n v past h = h

-- the copy is the last accepted start's
same_copy : {s c : Setup} {n : ℕ} {x : AcceptedStart} → Last (model s (some c) n) x → c ≡ x.settings
same_copy {s} {c} {n} {x} l = go (eqb n slot_length) l.copy
  where
    go : (t : Bool) → some c ≡ cond t none (some x.settings) → c ≡ x.settings
    go true e = absurd (some-ne-none c e)
    go false e = some-injective c x.settings e

-- m chips more are drawn
more_drawn : (s c : Setup) (n m : ℕ) (x : AcceptedStart) (past : List AcceptedStart) → Last (model s (some c) n) x → All Good past
    → Recorded (model s (cond (eqb (n + m) slot_length) none (some c)) (n + m)) (extended (in_buffers m (λ i. slot_chip c (n + i))) (x ∷ past))
more_drawn s c n m x past l g =
    let e = same_copy l in
    let f = slot_chip x.settings in (
      record {
        copy = ap (λ (u : Setup). cond (eqb (n + m) slot_length) none (some u)) e;
        chips = rw (l.chips, e) (ap₂ (λ (a b : List ℤ). record { re = a; im = b }) (listed-++ (λ i. (f i).re) n m) (listed-++ (λ i. (f i).im) n m));
        valid = l.valid;
      },
      g,
    )

draw_kept : (s : Setup) (o : Option Setup) (n : ℕ) (past : List AcceptedStart) → Recorded (model s o n) past
    → (a b : ℕ) → Kept past false (reference_step (model s o n) (draw a b))
unfolding reference_step
draw_kept s none n past h a b = h
draw_kept s (some c) n [] h a b = absurd (some-ne-none c h)
draw_kept s (some c) n (x ∷ past) h a b = go (eqb a b) refl
  where
    go : (t : Bool) → eqb a b ≡ t → Kept (x ∷ past) false (reference_step (model s (some c) n) (draw a b))
    go false e = rw e h
    go true e = rw e (more_drawn s c n (min a (slot_length - n)) x past h.0 h.1)

kept : (r : Reference) → ValidReference r → (past : List AcceptedStart) → Recorded r past
    → (c : Call (List ℤ)) → Kept past (is_start c) (reference_step r (arguments c))
unfolding reference_step arguments
kept r v past h (set_cell p t) = entry_kept r past h (set_cell_refusals p t otherwise cell_set p t)
kept r v past h (open_code Q k g) = let s = r.settings in entry_kept r past h (open_refusals s Q k g otherwise opened s Q k g)
kept r v past h (load_plan plan) = plan_kept r past h (plan_loaded r.settings plan)
kept r v past h (close Q k) = let s = r.settings in entry_kept r past h (close_refusals s Q k otherwise closed s Q k)
kept r v past h (set_gain Q k g) = let s = r.settings in entry_kept r past h (set_gain_refusals s Q k g otherwise gain_set s Q k g)
kept r v past h (load_bits Q k bits) = let s = r.settings in entry_kept r past h (load_bits_refusals s Q k bits otherwise bits_loaded s Q k bits)
kept r v past h (set_sync case frame half g_p g_s) =
    let s = r.settings in
    entry_kept r past h (set_sync_refusals s case frame half g_p g_s otherwise
    sync_changed s (some (record { case = case; frame = frame; half = half; g_p = g_p; g_s = g_s })))
kept r v past h clear_sync = other_settings r (sync_changed r.settings none) past h
kept r v past h start = start_kept r.settings r.sending r.sent v past h
kept r v past h (draw re im) = draw_kept r.settings r.sending r.sent past h (length re) (length im)

-- of a run
pub kept_by : (b : Bench) → ValidBench b → (past : List AcceptedStart) → Recorded (reference_of b) past → {c : Call (List ℤ)} {y : Step Bench} → Ran b c y → Kept past (is_start c) (step_of y)
kept_by b v past h {c} r = subst (Kept past (is_start c)) (ran_steps b v r).same (kept (reference_of b) v.model past h c)

-- ---- refusal 11
-- as many chips are drawn as the tally says
out : {r : Reference} {x : AcceptedStart} → Last r x → length x.chips.re ≡ r.sent
out {r} {x} l = ap (λ (v : Values). length v.re) l.chips ∙ length_listed (λ i. (slot_chip x.settings i).re) r.sent

-- without a copy all are out
gone : {s : Setup} {n : ℕ} {x : AcceptedStart} → Last (model s none n) x → n ≡ slot_length
gone {s} {n} {x} l = go (eqb n slot_length) refl l.copy
  where
    go : (t : Bool) → eqb n slot_length ≡ t → none ≡ cond t none (some x.settings) → n ≡ slot_length
    go true e f = eqb-true n slot_length e
    go false e f = absurd (none-ne-some x.settings f)

not_11 : (r : Reference) (m : ℕ) (t : Bool) → (draw_step r m (12 if t ∷ [] otherwise tt)).answer ≡ refused_by 11 → ⊥
not_11 r m true e = let z : ◌≡◌ {A = ℕ} 12 11 = cc in omega arith
not_11 r m false e = let z : ◌≡◌ {A = ℕ} 0 1 = cc in omega arith

pub draw_11 : (s : Setup) (o : Option Setup) (n : ℕ) → ValidReference (model s o n) → (past : List AcceptedStart) → Recorded (model s o n) past
    → (a b : ℕ) → ((reference_step (model s o n) (draw a b)).answer ≡ refused_by 11) ↔ NothingLeft past
unfolding reference_step
draw_11 s none n v [] h a b = (λ e. tt, λ e. refl)
draw_11 s none n v (x ∷ past) h a b = (λ e. out h.0 ∙ gone h.0, λ e. refl)
draw_11 s (some c) n v [] h a b = absurd (some-ne-none c h)
draw_11 s (some c) n v (x ∷ past) h a b =
    (λ e. absurd (not_11 (model s (some c) n) _ (not (eqb a b)) e), λ e. absurd (omega (arith, e, out h.0, v.below refl)))
