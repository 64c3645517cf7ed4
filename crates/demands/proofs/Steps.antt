-- One call: what a function of the bench gives and leaves is what the reference model gives and leaves. Assumes nothing.
use lib.IntN.{ℤ}
use mathlib.Core.Path.{◌≡◌, refl, sym, ap, ap₂, subst, ◌∙◌}
use mathlib.Core.Logic.{◌≢◌}
use mathlib.Core.Bool.{Bool, true, false, not, cond, false≢true}
use mathlib.Core.List.{List, [], ◌∷◌}
use mathlib.Core.Option.{Option, none, some, some-injective, none-ne-some}
use Prim.Native.Nat.{ℕ, suc, ◌+◌, ◌-◌, ◌≤◌, min}
use native.Mathlib.Omega.{arith}
use borrow.Author.Tests.{leb-true, leb-false, eqb-true, eq-eqb, ne_eqb, not-false}
use lib.Dec.{eqb, leb}
use lib.ListN.{length, set, take, length-set}
use Rattle.complex.specs.declared.Complex.{Complex}
use Rattle.complex.specs.Buffers.{Values, written, in_buffers}
use Rattle.complex.proofs.Lists.{take_written}
use Rattle.codes.specs.Refusals.{Answer, refused, gives, RefusalRule, ◌otherwise◌}
use Rattle.codes.proofs.Refused.{Passed}
use Rattle.modulation.specs.Nodes.{node}
use Rattle.slot.specs.declared.Settings.{Settings}
use Rattle.slot.specs.Setup.{Setup, is_some, is_open}
use Rattle.slot.specs.Slot.{slot_length, bit_count, slot_chip}
use Rattle.slot.specs.View.{view}
use Rattle.tables.proofs.Blocks.{is_bit}
use Rattle.bench.specs.declared.Bench.{Bench}
use Rattle.bench.specs.declared.Channel.{Channel}
use Rattle.bench.specs.Changes as Tables
use Rattle.bench.specs.BenchCalls.{is_running, fresh, set_cell_refusals, open_refusals, bad_gain, refused_at, opened_in_order, close_refusals, set_gain_refusals, load_bits_refusals, set_sync_refusals, start_refusals, AcceptedDraw, draw_refusals, moved_on}
use Rattle.bench.proofs.Accepted.{good_code, gain_range}
use Rattle.demands.specs.Calls.{Call, set_cell, open_code, load_plan, close, set_gain, load_bits, set_sync, clear_sync, start, draw, drew, Step}
use Rattle.demands.specs.Reference.{Reference, fresh_reference, opened, closed, gain_set, bits_loaded, sync_changed, records_opened, under_way, entry_step, plan_step, start_step, copy_chip, draw_step, reference_step, arguments}
use Rattle.demands.specs.Runs.{Ran}
use Rattle.demands.specs.Valid.{Valid, ValidReference}
use Rattle.demands.proofs.BenchSteps.{bench_step, bench_called, bench_planned, bench_drawn}
use Rattle.demands.proofs.Contracts.{ran_step}
use Rattle.demands.proofs.TableLaws.{view_cell_set, view_nothing_open, view_sync_set, view_sync_cleared, view_opened, view_closed, view_gain_set, view_bits_loaded}
use Rattle.demands.proofs.Otherwise.{alike}
use Rattle.demands.proofs.Valid.{only_itself, cell_set_valid, opened_valid, closed_valid, gain_set_valid, bits_loaded_valid, sync_set_valid, sync_cleared_valid, nothing_open_valid, fresh_reference_valid}

-- the reference model that a bench stands for
abbrev pub reference_of : Bench → Reference
reference_of b =
    record { settings = view b.settings; sending = cond (is_running b) (some (view b.sending)) none; sent = b.position }

-- the step of the reference model that a step of the bench stands for
abbrev pub step_of : Step Bench → Step Reference
step_of y = record { answer = y.answer; next = reference_of y.next }

-- ---- the bench's invariant
pub record Sized (b : Bench) : Type 0 where
  pub settings : length b.settings.gains ≡ 31
  pub sending : length b.sending.gains ≡ 31

pub record ValidBench (b : Bench) : Type 0 where
  pub sized : Sized b
  pub model : ValidReference (reference_of b)

-- tables of gains in their size, that hold valid settings
record ValidTables (s : Settings) : Type 0 where
  pub gains : length s.gains ≡ 31
  pub valid : Valid (view s)

-- a step of the reference model is the bench's, and leaves a valid bench
pub record Steps (x : Step Reference) (y : Step Bench) : Type 0 where
  pub same : x ≡ step_of y
  pub valid : ValidBench y.next

-- new tables are what the entry makes of the settings
record Change (s : Settings) (t : Setup) : Type 0 where
  pub view : view s ≡ t
  pub gains : length s.gains ≡ 31
  pub valid : Valid t

new_tables : {s : Settings} {t : Setup} → Change s t → ValidTables s
new_tables c = record { gains = c.gains; valid = subst Valid (sym c.view) c.valid }

-- ---- the entries, each where its refusals passed
not_0 : (g : ℕ) → bad_gain g ≡ false → g ≢ 0
not_0 g e z = omega (arith, (gain_range g e).0)

module _ (s : Settings) (h : ValidTables s) where
  new_gain : (Q k g : ℕ) → length (set s.gains (node Q k) g) ≡ 31
  new_gain Q k g = length-set s.gains (node Q k) g ∙ h.gains

  opening : (Q k g : ℕ) → Passed (open_refusals (view s) Q k g) → Change (Tables.with_bits (Tables.with_gain s Q k g) Q k []) (opened (view s) Q k g)
  opening Q k g p =
      let c = (good_code Q k p.0 p.1.0).listed in
      record { view = view_opened s h.gains Q k c g (not_0 g p.1.1.0) p.1.1.1.0; gains = new_gain Q k g; valid = opened_valid (view s) h.valid Q k g p }

  closing : (Q k : ℕ) → Passed (close_refusals (view s) Q k) → Change (Tables.with_gain s Q k 0) (closed (view s) Q k)
  closing Q k p = record { view = view_closed s h.gains Q k (good_code Q k p.0 p.1.0).listed; gains = new_gain Q k 0; valid = closed_valid (view s) h.valid Q k p }

  setting_gain : (Q k g : ℕ) → Passed (set_gain_refusals (view s) Q k g) → Change (Tables.with_gain s Q k g) (gain_set (view s) Q k g)
  setting_gain Q k g p =
      let c = (good_code Q k p.0 p.1.0).listed in
      record { view = view_gain_set s h.gains Q k c g (not_0 g p.1.1.0) (not-false _ p.1.1.1.0); gains = new_gain Q k g; valid = gain_set_valid (view s) h.valid Q k g p }

  loading_bits : (Q k : ℕ) (bits : List ℕ) → Passed (load_bits_refusals (view s) Q k bits) → Change (Tables.with_bits s Q k bits) (bits_loaded (view s) Q k bits)
  unfolding view
  loading_bits Q k bits p =
      let c = (good_code Q k p.0 p.1.0).listed in
      let o = not-false (is_open (view s) Q k) p.1.1.0 in
      let count = eqb-true (length bits) (bit_count s.kind Q) (not-false _ p.1.1.1.0) in
      record {
        view = view_bits_loaded s h.gains Q k c bits o (only_itself (view s) h.valid Q k o) count (is_bit bits p.1.1.1.1.0);
        gains = h.gains;
        valid = bits_loaded_valid (view s) h.valid Q k bits p;
      }

  setting_sync : (case frame half g_p g_s : ℕ) → Passed (set_sync_refusals (view s) case frame half g_p g_s)
      → Change (Tables.with_sync s (record { on = 1; case = case; frame = frame; half = half; gp = g_p; gs = g_s }))
      (sync_changed (view s) (some (record { case = case; frame = frame; half = half; g_p = g_p; g_s = g_s })))
  unfolding view
  setting_sync case frame half g_p g_s p =
      record {
        view = view_sync_set s h.valid.cell case frame half g_p g_s;
        gains = h.gains;
        valid = sync_set_valid (view s) h.valid case frame half g_p g_s p;
      }

-- ---- the air
-- a slot is under way in both, or in none
air : (b : Bench) → under_way (reference_of b) ≡ is_running b
air b = go (is_running b)
  where
    go : (t : Bool) → is_some (cond t (some (view b.sending)) none) ≡ t
    go true = refl
    go false = refl

-- at 2,560 the copy goes, and the bench stops running
copy_goes : (x running : ℕ) (s : Setup) → x ≤ slot_length → not (eqb running 0) ≡ true
    → ◌≡◌ {A = Option Setup} (cond (eqb x slot_length) none (some s)) (cond (not (eqb (cond (leb slot_length x) 0 running) 0)) (some s) none)
copy_goes x running s l e = go (leb slot_length x) refl
  where
    go : (t : Bool) → leb slot_length x ≡ t
        → ◌≡◌ {A = Option Setup} (cond (eqb x slot_length) none (some s)) (cond (not (eqb (cond t 0 running) 0)) (some s) none)
    go true f = rw (eq-eqb x slot_length (omega (arith, leb-true slot_length x f)))
    go false f = rw (e, ne_eqb x slot_length (λ q. omega (arith, leb-false slot_length x f)))

-- the first entries of the buffers are the chips that the draw wrote
left_in_buffers : (m : ℕ) (f : ℕ → Complex) (re im : List ℤ)
    → let v = in_buffers m f in v ≡ record { re = take m (written v.re re); im = take m (written v.im im) }
left_in_buffers m f re im =
    ap₂ (λ (x y : List ℤ). record { re = x; im = y }) (sym (take_written (λ i. (f i).re) re m)) (sym (take_written (λ i. (f i).im) im m))

-- what a draw of m chips gives
abbrev draw_of : Bench → ℕ → AcceptedDraw
draw_of b m = record { count = m; chips = in_buffers m (λ i. slot_chip (view b.sending) (b.position + i)); bench = moved_on b m }

-- ---- one call
module _ (b : Bench) (v : ValidBench b) where
  own : ValidTables b.settings
  own = record { gains = v.sized.settings; valid = v.model.settings }

  -- new settings leave the air as it was
  with_tables : {s : Settings} → ValidTables s → ValidBench (Tables.with_settings b s)
  with_tables h =
      record {
        sized = record { settings = h.gains; sending = v.sized.sending };
        model = record { settings = h.valid; sending = v.model.sending; at_most = v.model.at_most; below = v.model.below };
      }

  -- "Each accepted call but start and draw changes the settings by its entry."
  entry : (rs : List RefusalRule) {s : Settings} {t : Setup} → (Passed rs → Change s t)
      → Steps (entry_step (reference_of b) (rs otherwise t)) (bench_called b (rs otherwise Tables.with_settings b s))
  entry rs {s} {t} h =
      alike (λ (x : Answer Setup) (y : Answer Bench). Steps (entry_step (reference_of b) x) (bench_called b y)) (λ n. record { same = refl; valid = v })
      rs t (Tables.with_settings b s)
      (λ p. record { same = rw (← (h p).view); valid = with_tables (new_tables (h p)) })

  -- Load plan: record after record, each on what the earlier ones left
  plan_opened : (place : ℕ) (s : Settings) (cs : List Channel) → ValidTables s
      → Steps (plan_step (reference_of b) (records_opened place (view s) cs)) (bench_planned b (opened_in_order place (Tables.with_settings b s) cs))
  unfolding records_opened opened_in_order
  plan_opened place s [] h = record { same = refl; valid = with_tables h }
  plan_opened place s (c ∷ cs) h =
      alike (λ (x : Answer Setup) (y : Answer Bench).
      Steps (plan_step (reference_of b) (elim x [ refused n ↦ refused_at n place | gives next ↦ records_opened (suc place) next cs ]))
      (bench_planned b (elim y [ refused n ↦ refused_at n place | gives next ↦ opened_in_order (suc place) next cs ])))
      (λ n. record { same = refl; valid = v })
      (open_refusals (view s) c.q c.k c.gain) (opened (view s) c.q c.k c.gain) _
      (λ p. let o = opening s h c.q c.k c.gain p in rw (← o.view) (plan_opened (suc place) _ cs (new_tables o)))

  -- "An accepted start makes the copy from the settings and sets the tally to 0."
  started_valid : ValidBench (record { settings = b.settings; running = 1; sending = b.settings; position = 0 })
  started_valid =
      record {
        sized = record { settings = v.sized.settings; sending = v.sized.settings };
        model = record {
          settings = v.model.settings;
          sending = λ s e. subst Valid (some-injective _ s e) v.model.settings;
          at_most = omega arith;
          below = λ e. omega arith;
        };
      }

  start_steps : Steps (reference_step (reference_of b) start) (bench_step b start)
  unfolding reference_step bench_step
  start_steps =
      rw (air b)
      (alike (λ (x : Answer (Unit {0})) (y : Answer Bench). Steps (start_step (reference_of b) x) (bench_called b y)) (λ n. record { same = refl; valid = v })
      (start_refusals (is_running b)) tt (record { settings = b.settings; running = 1; sending = b.settings; position = 0 })
      (λ p. record { same = refl; valid = started_valid }))

  -- An accepted draw gets m chips of the copy's slot, "the tally grows by m, and at 2,560 the copy goes".
  chips_drawn : (re im : List ℤ) (m : ℕ) → b.position + m ≤ slot_length → is_running b ≡ true
      → draw_step (reference_of b) m (gives tt) ≡ step_of (bench_drawn b re im (gives (draw_of b m)))
  chips_drawn re im m l e =
      ap₂ (λ (x : Values) (o : Option Setup). record { answer = drew m x; next = record { settings = view b.settings; sending = o; sent = b.position + m } })
      (ap (λ (o : Option Setup). in_buffers m (λ i. copy_chip o (b.position + i))) copy
      ∙ left_in_buffers m (λ i. slot_chip (view b.sending) (b.position + i)) re im)
      (ap (λ (o : Option Setup). cond (eqb (b.position + m) slot_length) none o) copy
      ∙ copy_goes (b.position + m) b.running (view b.sending) l e)
    where
      copy : (reference_of b).sending ≡ some (view b.sending)
      copy = ap (λ (t : Bool). cond t (some (view b.sending)) none) e

  -- chips are left while the bench runs
  moved_valid : (m : ℕ) → b.position + m ≤ slot_length → ValidBench (moved_on b m)
  moved_valid m l =
      record {
        sized = record { settings = v.sized.settings; sending = v.sized.sending };
        model = go (leb slot_length (b.position + m)) refl;
      }
    where
      go : (t : Bool) → leb slot_length (b.position + m) ≡ t
          → ValidReference (record { settings = view b.settings; sending = cond (not (eqb (cond t 0 b.running) 0)) (some (view b.sending)) none; sent = b.position + m })
      go true e = record { settings = v.model.settings; sending = λ s f. absurd (none-ne-some s f); at_most = l; below = λ f. absurd (false≢true f) }
      go false e = record { settings = v.model.settings; sending = v.model.sending; at_most = l; below = λ f. leb-false slot_length (b.position + m) e }

  draw_steps : (re im : List ℤ) → Steps (reference_step (reference_of b) (draw (length re) (length im))) (bench_step b (draw re im))
  unfolding reference_step bench_step
  draw_steps re im =
      let m : ℕ = min (length re) (slot_length - b.position) in
      let l : b.position + m ≤ slot_length = omega (arith, v.model.at_most) in
      rw (air b)
      (alike (λ (x : Answer (Unit {0})) (y : Answer AcceptedDraw). Steps (draw_step (reference_of b) m x) (bench_drawn b re im y)) (λ n. record { same = refl; valid = v })
      (draw_refusals (is_running b) (length re) (length im)) tt (draw_of b m)
      (λ p. record { same = chips_drawn re im m l (not-false _ p.0); valid = moved_valid m l }))

  step : (c : Call (List ℤ)) → Steps (reference_step (reference_of b) (arguments c)) (bench_step b c)
  unfolding reference_step bench_step arguments
  step (set_cell p t) = entry (set_cell_refusals p t) (λ h. record { view = view_cell_set (record { 0 = p }) t b.settings.pairs; gains = refl; valid = cell_set_valid p t h })
  step (open_code Q k g) = entry (open_refusals (view b.settings) Q k g) (opening b.settings own Q k g)
  step (load_plan plan) =
      let e = view_nothing_open b.settings in
      let w = nothing_open_valid (view b.settings) own.valid in
      subst (λ (s : Setup). Steps (plan_step (reference_of b) (records_opened 0 s plan)) (bench_step b (load_plan plan))) e
      (plan_opened 0 (Tables.all_closed b.settings) plan (record { gains = refl; valid = subst Valid (sym e) w }))
  step (close Q k) = entry (close_refusals (view b.settings) Q k) (closing b.settings own Q k)
  step (set_gain Q k g) = entry (set_gain_refusals (view b.settings) Q k g) (setting_gain b.settings own Q k g)
  step (load_bits Q k bits) = entry (load_bits_refusals (view b.settings) Q k bits) (loading_bits b.settings own Q k bits)
  step (set_sync case frame half g_p g_s) =
      entry (set_sync_refusals (view b.settings) case frame half g_p g_s) (setting_sync b.settings own case frame half g_p g_s)
  step clear_sync = entry [] (λ p. record { view = view_sync_cleared b.settings; gains = own.gains; valid = sync_cleared_valid (view b.settings) own.valid })
  step start = start_steps
  step (draw re im) = draw_steps re im

  -- what a function gave and left
  pub ran_steps : {c : Call (List ℤ)} {y : Step Bench} → Ran b c y → Steps (reference_step (reference_of b) (arguments c)) y
  ran_steps {c} h = subst (Steps (reference_step (reference_of b) (arguments c))) (sym (ran_step h)) (step c)

-- ---- the fresh bench
-- "at first the fresh settings, no copy, tally 0"
pub fresh_same : reference_of fresh ≡ fresh_reference
fresh_same = ap (λ (s : Setup). record { settings = s; sending = none; sent = 0 }) (view_cell_set (record { 0 = 0 }) 1 _)

pub fresh_bench_valid : ValidBench fresh
fresh_bench_valid = record { sized = record { settings = refl; sending = refl }; model = subst ValidReference (sym fresh_same) fresh_reference_valid }
