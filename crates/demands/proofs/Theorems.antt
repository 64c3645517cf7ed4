-- Demands 2 and 3 of every run of the functions: a list of calls of any length and with any arguments, refused ones included, from a fresh bench. Assumes nothing.
use Prim.Native.Nat.{ℕ, ◌+◌, ◌*◌, ◌≤◌}
use mathlib.Core.Path.{◌≡◌, refl, sym, ap, ap₂, ◌∙◌}
use mathlib.Core.Logic.{◌↔◌}
use mathlib.Core.Bool.{true, false}
use mathlib.Core.List.{List, [], ◌∷◌, Memᴰ, map}
use mathlib.Core.Option.{none, some}
use lib.IntN.{ℤ}
use lib.ListN.{length, take}
use Rattle.complex.specs.declared.Complex.{Complex}
use Rattle.complex.specs.Buffers.{Values, in_buffers}
use Rattle.complex.proofs.Lists.{take_written}
use Rattle.codes.specs.Refusals.{Answer, gives}
use Rattle.codes.specs.Tree.{is_code}
use Rattle.codes.specs.Scrambling.{code_group}
use Rattle.codes.specs.Burst.{burst_start}
use Rattle.slot.specs.Setup.{ChannelSetup, SyncSetup, Setup}
use Rattle.bench.specs.declared.Bench.{Bench}
use Rattle.bench.specs.BenchCalls.{fresh}
use Rattle.analyser_parts.specs.Components.{outside}
use Rattle.harden.specs.Hardening.{harden_call}
use Rattle.read_sync.specs.declared.Candidate.{Candidate}
use Rattle.read_sync.specs.SyncReading.{candidate_for}
use Rattle.demands.specs.Calls.{Call, draw, refused_by, Step}
use Rattle.demands.specs.Reference.{Reference, fresh_reference, arguments, answers_by, left_after}
use Rattle.demands.specs.Runs.{Ran, RunFrom, ended, ◌then◌, Run, answers_in, left_in}
use Rattle.demands.specs.AnalyserRuns.{Output, RanReadSync, wrote}
use Rattle.demands.specs.AcceptedStarts.{AcceptedStart, accepted_starts, InOrder, NothingLeft}
use Rattle.demands.specs.Fields.{Field, field_length, field_start, AreDrawn, DrawnWhole, chips_from, drawn_field, reading_count, FieldRead, readings, symbol_readings, unrelated, zero_readings, no_burst, burst_field, quiet_field, added, BurstAdds, power_of_16_chips, power_due, FieldHardened, HardBits, AllHardBits}
use Rattle.demands.specs.Valid.{Valid}
use Rattle.demands.proofs.Steps.{reference_of, ValidBench, ran_steps}
use Rattle.demands.proofs.BurstDrawn.{slot_burst}
use Rattle.demands.proofs.Contracts.{read_meets, harden_meets, read_sync_meets}
use Rattle.demands.proofs.Existence.{can_run}
use Rattle.demands.proofs.FieldReadings.{of_data, of_burst}
use Rattle.demands.proofs.HardBits.{no_burst_anywhere, own_bits, all_bits}
use Rattle.demands.proofs.History.{Good, all_at, draw_11}
use Rattle.demands.proofs.Power.{slot_power}
use Rattle.demands.proofs.Runs.{first_same, run_holds, run_recorded, run_good}
use Rattle.demands.proofs.SlotReadings.{own_of_data, zero_of_data, quiet_reads, burst_reads, none_too_large, own_reads, zero_reads, sum_reads}

-- "The list has any length, also 0, and any arguments.": every list has a run, so that what is said of every run is said of every list
runs_from : (b : Bench) (calls : List (Call (List ℤ))) → (ys : List (Step Bench)) × RunFrom b calls ys
runs_from b [] = ([], ended)
runs_from b (c ∷ cs) =
    let x = can_run b c in
    let rest = runs_from x.0.next cs in
    (x.0 ∷ rest.0, x.1 then rest.1)

pub runs_exist : (calls : List (Call (List ℤ))) → (run : Run) × (run.calls ≡ calls)
runs_exist calls = let x = runs_from fresh calls in (record { first = fresh; fresh = refl; calls = calls; steps = x.0; ran = x.1 }, refl)

-- the readings of a read that wrote n values
readings_are : {s : Setup} {f : Field} {Q k : ℕ} {chips : Values} (x : FieldRead s f Q k chips) (g : ℕ → Complex)
    → (let v = in_buffers (reading_count s f Q) g in x.read ≡ wrote v x.out → readings x ≡ v)
readings_are {s} {f} {Q} {k} {chips} x g e =
    let n = reading_count s f Q in
    ap (λ (y : Output Values). record { re = take n y.left.re; im = take n y.left.im }) e
    ∙ ap₂ (λ (re im : List ℤ). record { re = re; im = im }) (take_written _ x.out.re n) (take_written _ x.out.im n)

module _ (run : Run) where
  -- Demand 3: "the refusals, counts and drawn chips are those of document 01's ledger". "At every call of the list the bench gives the ledger's number, place
  -- and count, or none where the ledger has none, and an accepted draw leaves the ledger's m chips in the first m entries of its two buffers."
  pub answers : answers_in run.steps ≡ answers_by fresh_reference (map arguments run.calls)
  answers = (run_holds run).answers ∙ ap (λ (r : Reference). answers_by r (map arguments run.calls)) (first_same run)

  -- the bench that it leaves stands for the reference model that the calls leave, and is one that calls can make
  pub reached : left_after fresh_reference (map arguments run.calls) ≡ reference_of (left_in run)
  reached = ap (λ (r : Reference). left_after r (map arguments run.calls)) (sym (first_same run)) ∙ (run_holds run).left

  pub bench_valid : ValidBench (left_in run)
  bench_valid = (run_holds run).valid

  -- "A draw is refused 11 exactly when no start was accepted yet or all 2,560 chips of the last accepted one are out."
  pub refused_11 : (re im : List ℤ) (y : Step Bench) → Ran (left_in run) (draw re im) y → (y.answer ≡ refused_by 11) ↔ NothingLeft (accepted_starts run)
  unfolding arguments
  refused_11 re im y h =
      let b = left_in run in
      let r = reference_of b in
      rw (← (ap (λ (z : Step Reference). z.answer) (ran_steps b bench_valid h).same))
      (draw_11 r.settings r.sending r.sent bench_valid.model (accepted_starts run) (run_recorded run) (length re) (length im))

  -- ---- every accepted start, whatever calls fall between
  module _ (slot : AcceptedStart) (i : Memᴰ slot (accepted_starts run)) where
    abbrev s : Setup
    s = slot.settings

    good : Good slot
    good = all_at Good i (run_good run)

    -- "The chips drawn after an accepted start are, in order, those of the settings at that start, whatever calls fall between."
    pub in_order : InOrder slot
    in_order = good.in_order

    -- its settings are such as the calls can make
    pub slot_valid : Valid s
    slot_valid = good.valid

    -- read accepts every field that the bench can send: no component is outside -100000 to 100000
    pub never_17 : (outside slot.chips.re ≡ false) × (outside slot.chips.im ≡ false)
    never_17 = none_too_large slot good

    -- "Where none falls, counted from a field's start, the squared components of each 16 data chips add up to 16 times the sum of the squared gains.": the 16
    -- chips from chip 16m of a field on; the field need not be drawn whole
    pub power : (f : Field) (m : ℕ) → 16 * m + 16 ≤ field_length s f → AreDrawn slot (field_start s f + 16 * m) 16
        → no_burst s (field_start s f + 16 * m) 16 ≡ true → power_of_16_chips slot (field_start s f + 16 * m) ≡ power_due s
    power = slot_power slot good

    -- Demand 2: "a sync burst standing alone, read with its own case, comes back as the group, frame and slot it was made for"
    pub burst_drawn : (y : SyncSetup) → s.sync ≡ some y → ((Q k : ℕ) → s.channel Q k ≡ none)
        → (let g = code_group s.cell in let x = burst_start g in AreDrawn slot x 256
        → (t : Answer Candidate) → RanReadSync y.case (chips_from slot x 256) t → t ≡ gives (candidate_for g y.frame y.half))
    burst_drawn y e nothing drawn t h = read_sync_meets h ∙ slot_burst slot good y e nothing drawn

    -- ---- "When a data field drawn whole is read with that start's cell parameter":
    module _ (f : Field) (whole : DrawnWhole slot f) (Q k : ℕ) (x : FieldRead s f Q k (drawn_field slot f)) where
      -- "each reading of a code open at that start is its spreading factor times its gain times its own symbol", in a field into which no burst falls
      pub own_reading : (c : ChannelSetup) → s.channel Q k ≡ some c → no_burst s (field_start s f) (field_length s f) ≡ true → x.read ≡ wrote (symbol_readings s f Q c) x.out
      own_reading c e n = read_meets x.ran (own_reads slot good f whole Q k x.out x.suffice c e n)

      -- "and each of a code unrelated to all of those is zero, whatever the others send"
      pub unrelated_reading : is_code Q k ≡ true → unrelated s Q k ≡ true → no_burst s (field_start s f) (field_length s f) ≡ true
          → x.read ≡ wrote (zero_readings s f Q) x.out
      unrelated_reading c e n = read_meets x.ran (zero_reads slot good f whole Q k x.out x.suffice c e n)

      -- "A sync burst adds exactly its own reading.": for every code, related or not
      pub burst_adds : is_code Q k ≡ true → (quiet : FieldRead s f Q k (quiet_field s f)) (burst : FieldRead s f Q k (burst_field s f))
          → BurstAdds s f Q k (drawn_field slot f) x quiet burst
      burst_adds c quiet burst =
          let n = reading_count s f Q in
          let d = read_meets quiet.ran (quiet_reads s good.valid f Q k c quiet.out quiet.suffice) in
          let b = read_meets burst.ran (burst_reads s good.valid f Q k c burst.out burst.suffice) in
          let of-quiet = readings_are quiet (of_data s f Q k) d in
          let of-alone = readings_are burst (of_burst s f Q k) b in
          record {
            quiet_accepted = d ∙ ap (λ (v : Values). wrote v quiet.out) (sym of-quiet);
            burst_accepted = b ∙ ap (λ (v : Values). wrote v burst.out) (sym of-alone);
            sum = read_meets x.ran (sum_reads slot good f whole Q k x.out x.suffice c)
                ∙ ap₂ (λ (v w : Values). wrote (added n v w) x.out) (sym of-quiet) (sym of-alone);
            if_open = λ c e. of-quiet ∙ own_of_data s good.valid f Q k c e;
            if_unrelated = λ e. of-quiet ∙ zero_of_data s good.valid f Q k c e;
          }

    -- ---- Demand 2: "hardening the readings of a channel in a slot without sync yields the bits it held when that slot started"
    module _ (Q k : ℕ) (c : ChannelSetup) (no_sync : s.sync ≡ none) (e : s.channel Q k ≡ some c) where
      pub hard_bits : (f : Field) → DrawnWhole slot f → (x : FieldHardened s f Q k (drawn_field slot f)) → HardBits s f Q k (drawn_field slot f) c x
      hard_bits f whole x =
          let r = own_reading f whole Q k x.field c e (no_burst_anywhere s no_sync (field_start s f) (field_length s f)) in
          record {
            read_wrote = r;
            harden_wrote = harden_meets x.ran
                (ap (λ (v : Values). harden_call v.re v.im (length x.bits)) (readings_are x.field _ r) ∙ own_bits s good.valid Q k c e f (length x.bits) x.suffice);
          }

      -- of both fields
      pub all_hard_bits : ((f : Field) → DrawnWhole slot f) → (x : (f : Field) → FieldHardened s f Q k (drawn_field slot f)) → AllHardBits s Q k (drawn_field slot) c x
      all_hard_bits whole x = record { each_field = λ f. hard_bits f (whole f) (x f); all = all_bits s good.valid Q k c e }
