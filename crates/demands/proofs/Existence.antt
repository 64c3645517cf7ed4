-- Every call, on any bench and with any arguments, has a result that its function's contract describes; and so have the calls of the analyser. Assumes nothing.
use Prim.Native.Nat.{ℕ}
use mathlib.Core.Path.{refl}
use mathlib.Core.List.{List, []}
use lib.IntN.{ℤ}
use lib.ListN.{length, take}
use denote.Ref.{Bor}
use Rattle.std.specs.Borrow.{MutBor}
use Rattle.complex.specs.Buffers.{Values, written}
use Rattle.codes.specs.declared.refusal.Refusal.{Refusal}
use Rattle.codes.specs.Refusals.{Answer, after}
use Rattle.bench.specs.declared.Bench.{Bench}
use Rattle.bench.specs.declared.PlanRecords.{PlanRecords}
use Rattle.bench.specs.declared.Answered.{Answered}
use Rattle.bench.specs.declared.PlanRefusal.{PlanRefusal}
use Rattle.bench.specs.BenchCalls.{AnswerAt, set_cell_call, open_call, load_plan_call, plan_left_by, close_call, set_gain_call, load_bits_call, set_sync_call, clear_sync_call, start_call, draw_call, left_by}
use Rattle.read.specs.Reading.{read_call}
use Rattle.harden.specs.Hardening.{harden_call}
use Rattle.read_sync.specs.declared.Candidate.{Candidate}
use Rattle.demands.proofs.Told.{Told, PlanTold, clear_sync_told, close_told, draw_told, harden_told, load_bits_told, load_plan_told, open_told, read_sync_told, read_told, set_cell_told, set_gain_told, set_sync_told, start_told}
use Rattle.demands.specs.Calls.{Call, set_cell, open_code, load_plan, close, set_gain, load_bits, set_sync, clear_sync, start, draw, Step}
use Rattle.demands.specs.Runs.{Ran, by_set_cell, by_open, by_load_plan, by_load_records, by_close, by_set_gain, by_load_bits, by_set_sync, by_clear_sync, by_start, by_draw}
use Rattle.demands.specs.AnalyserRuns.{Output, RanRead, by_read, RanHarden, by_harden, RanReadSync, by_read_sync}

-- a reference that holds x
abbrev lent : {X : Type 0} → X → Bor X
lent x = record { ref_ptr = (0, 0); now = x }

-- one that may be written to
abbrev lent_mut : {X : Type 0} → X → MutBor X
lent_mut x = record { ref_ptr = (0, 0); ghost_name = 0; now = x }

-- ---- one call
module _ (b : Bench) where
  abbrev result : (a : Answer Bench) → Told a → Answered (Unit {0}) Refusal
  result a r = record { answer = r.0; bench = left_by a b }

  abbrev plan_result : (a : AnswerAt Bench) → PlanTold a → Answered (Unit {0}) PlanRefusal
  plan_result a r = record { answer = r.0; bench = plan_left_by a b }

  pub can_run : (c : Call (List ℤ)) → (y : Step Bench) × Ran b c y
  can_run (set_cell p t) = let a = set_cell_call b (record { 0 = p }) t in let r = set_cell_told b (record { 0 = p }) t in (_, by_set_cell p t (result a r) (b, (record { 0 = p }, (t, tt))) (r.1, refl))
  can_run (open_code Q k g) = let a = open_call b Q k g in let r = open_told b Q k g in (_, by_open Q k g (result a r) (b, (Q, (k, (g, tt)))) (r.1, refl))
  can_run (load_plan plan) =
      let a = load_plan_call b plan in let r = load_plan_told b plan in
      (_, by_load_plan ([], tt) (lent plan) (plan_result a r) (b, (lent plan, tt)) (r.1, refl))
  can_run (close Q k) = let a = close_call b Q k in let r = close_told b Q k in (_, by_close Q k (result a r) (b, (Q, (k, tt))) (r.1, refl))
  can_run (set_gain Q k g) = let a = set_gain_call b Q k g in let r = set_gain_told b Q k g in (_, by_set_gain Q k g (result a r) (b, (Q, (k, (g, tt)))) (r.1, refl))
  can_run (load_bits Q k bits) =
      let a = load_bits_call b Q k bits in let r = load_bits_told b Q k bits in
      (_, by_load_bits ([], tt) Q k (lent bits) (result a r) (b, (Q, (k, (lent bits, tt)))) (r.1, refl))
  can_run (set_sync case frame half g_p g_s) =
      let a = set_sync_call b case frame half g_p g_s in let r = set_sync_told b case frame half g_p g_s in
      (_, by_set_sync case frame half g_p g_s (result a r) (b, (case, (frame, (half, (g_p, (g_s, tt)))))) (r.1, refl))
  can_run clear_sync = let a = clear_sync_call b in let r = clear_sync_told b in (_, by_clear_sync (result a r) (b, tt) (r.1, refl))
  can_run start = let a = start_call b in let r = start_told b in (_, by_start (result a r) (b, tt) (r.1, refl))
  can_run (draw re im) =
      let a = draw_call b (length re) (length im) in let r = draw_told b (length re) (length im) in (
        _,
        by_draw ([], ([], tt)) (lent_mut re) (lent_mut im)
            (record { answer = r.0; bench = after a b (λ d. d.bench) })
            (b, (lent_mut (after a re (λ d. written d.chips.re re)), (lent_mut (after a im (λ d. written d.chips.im im)), tt)))
            (r.1, (refl, (refl, refl))),
      )

  -- a host's load plan
  pub records_run : (plan : PlanRecords) (count : ℕ) → (y : Step Bench) × Ran b (load_plan (take count plan.records)) y
  records_run plan count =
      let a = load_plan_call b (take count plan.records) in let r = load_plan_told b (take count plan.records) in
      (_, by_load_records plan count (plan_result a r) (b, (plan, (count, tt))) (r.1, refl))

-- ---- the analyser, for any buffers
pub reads_exist : (p Q k : ℕ) (field out : Values) → (y : Output Values) × RanRead p Q k field out y
reads_exist p Q k field out =
    let a = read_call p Q k field.re field.im (length out.re) (length out.im) in let r = read_told p Q k field.re field.im (length out.re) (length out.im) in
    let re = after a out.re (λ y. written y.re out.re) in
    let im = after a out.im (λ y. written y.im out.im) in (
      _,
      by_read ([], ([], ([], ([], tt)))) (lent field.re) (lent field.im) (lent_mut out.re) (lent_mut out.im) r.0
          (record { 0 = p }, (Q, (k, (lent field.re, (lent field.im, (lent_mut re, (lent_mut im, tt)))))))
          (r.1, (refl, refl)),
    )

pub hardens_exist : (readings : Values) (bits : List ℕ) → (y : Output (List ℕ)) × RanHarden readings bits y
hardens_exist readings bits =
    let a = harden_call readings.re readings.im (length bits) in let r = harden_told readings.re readings.im (length bits) in (
      _,
      by_harden ([], ([], ([], tt))) (lent readings.re) (lent readings.im) (lent_mut bits) r.0
          (lent readings.re, (lent readings.im, (lent_mut (after a bits (λ b. written b bits)), tt)))
          (r.1, refl),
    )

pub sync_reads_exist : (case : ℕ) (chips : Values) → (t : Answer Candidate) × RanReadSync case chips t
sync_reads_exist case chips =
    let r = read_sync_told case chips.re chips.im in (
      _,
      by_read_sync ([], ([], tt)) (lent chips.re) (lent chips.im) r.0
          (case, (lent chips.re, (lent chips.im, tt))) r.1,
    )
