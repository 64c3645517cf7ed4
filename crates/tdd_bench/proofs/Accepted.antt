-- A call whose `refusal` is 0 is accepted: no list of refusals has that number. Assumes nothing.
use mathlib.Core.Path.{◌≡◌, refl}
use mathlib.Core.List.{List, [], ◌∷◌}
use Prim.Native.Nat.{ℕ, suc}
use lib.IntN.{ℤ}
use Rattle.codes.specs.declared.CellParameter.{CellParameter}
use Rattle.codes.specs.Refusals.{Answer, refused, gives}
use Rattle.codes.proofs.Refused.{numbered, 0_accepts, ZeroAccepts}
use Rattle.slot.specs.View.{view}
use Rattle.bench.specs.declared.Bench.{Bench}
use Rattle.bench.specs.declared.Channel.{Channel}
use Rattle.bench.specs.BenchCalls.{AnswerAt, refused_at, loads, clear_sync_call, close_call, close_refusals, draw_call, draw_refusals, load_bits_call, load_bits_refusals, load_plan_call, open_call, open_refusals, opened_in_order, plan_outcome, set_cell_call, set_cell_refusals, set_gain_call, set_gain_refusals, set_sync_call, set_sync_refusals, start_call, start_refusals, is_running}
use Rattle.bench.specs.Changes.{all_closed, with_settings}
use Rattle.read.specs.Reading.{read_call, read_refusals}
use Rattle.harden.specs.Hardening.{harden_call, harden_refusals}
use Rattle.read_sync.specs.SyncReading.{read_sync_call, read_sync_refusals}
use Rattle.find.specs.Finding.{find_call, find_refusals}
use Rattle.tdd_bench.specs.PlanResults.{plan_refusal_of}

module _ (b : Bench) where
  pub set_cell_0 : (p : CellParameter) (t : ℕ) → ZeroAccepts (set_cell_call b p t)
  unfolding numbered
  set_cell_0 p t = 0_accepts _ (set_cell_refusals p.0 t) tt

  pub open_0 : (Q k g : ℕ) → ZeroAccepts (open_call b Q k g)
  unfolding numbered
  open_0 Q k g = 0_accepts _ (open_refusals (view b.settings) Q k g) tt

  pub close_0 : (Q k : ℕ) → ZeroAccepts (close_call b Q k)
  unfolding numbered
  close_0 Q k = 0_accepts _ (close_refusals (view b.settings) Q k) tt

  pub set_gain_0 : (Q k g : ℕ) → ZeroAccepts (set_gain_call b Q k g)
  unfolding numbered
  set_gain_0 Q k g = 0_accepts _ (set_gain_refusals (view b.settings) Q k g) tt

  pub load_bits_0 : (Q k : ℕ) (bits : List ℕ) → ZeroAccepts (load_bits_call b Q k bits)
  unfolding numbered
  load_bits_0 Q k bits = 0_accepts _ (load_bits_refusals (view b.settings) Q k bits) tt

  pub set_sync_0 : (case frame half g_p g_s : ℕ) → ZeroAccepts (set_sync_call b case frame half g_p g_s)
  unfolding numbered
  set_sync_0 case frame half g_p g_s = 0_accepts _ (set_sync_refusals (view b.settings) case frame half g_p g_s) tt

  pub clear_sync_0 : ZeroAccepts (clear_sync_call b)
  clear_sync_0 e = refl

  pub start_0 : ZeroAccepts (start_call b)
  unfolding numbered
  start_0 = 0_accepts _ (start_refusals (is_running b)) tt

  pub draw_0 : (n n' : ℕ) → ZeroAccepts (draw_call b n n')
  unfolding numbered
  draw_0 n n' = 0_accepts _ (draw_refusals (is_running b) n n') tt

-- load plan's numbers are open's
abbrev PlanZeroAccepts : AnswerAt Bench → Type 0
PlanZeroAccepts a = plan_refusal_of a ≡ 0 → plan_outcome a ≡ loads tt

opened_in_order_0 : (place : ℕ) (b : Bench) (plan : List Channel) → PlanZeroAccepts (opened_in_order place b plan)
unfolding opened_in_order
opened_in_order_0 place b [] = λ e. refl
opened_in_order_0 place b (c ∷ cs) =
    go (open_call b c.q c.k c.gain) (open_0 b c.q c.k c.gain) (λ next. opened_in_order_0 (suc place) next cs)
  where
    go : (a : Answer Bench) → ZeroAccepts a → ((next : Bench) → PlanZeroAccepts (opened_in_order (suc place) next cs))
        → PlanZeroAccepts (elim a [ refused n ↦ refused_at n place | gives next ↦ opened_in_order (suc place) next cs ])
    go (refused n) z more e = let f = z e in cc
    go (gives next) z more e = more next e

pub load_plan_0 : (b : Bench) (plan : List Channel) → PlanZeroAccepts (load_plan_call b plan)
load_plan_0 b plan = opened_in_order_0 0 (with_settings b (all_closed b.settings)) plan

pub read_0 : (p Q k : ℕ) (re im : List ℤ) (m m' : ℕ) → ZeroAccepts (read_call p Q k re im m m')
unfolding numbered
read_0 p Q k re im m m' = 0_accepts _ (read_refusals p Q k re im m m') tt

pub harden_0 : (re im : List ℤ) (m : ℕ) → ZeroAccepts (harden_call re im m)
unfolding numbered
harden_0 re im m = 0_accepts _ (harden_refusals re im m) tt

pub read_sync_0 : (case : ℕ) (re im : List ℤ) → ZeroAccepts (read_sync_call case re im)
unfolding numbered
read_sync_0 case re im = 0_accepts _ (read_sync_refusals case re im) tt

pub find_0 : (re im : List ℤ) (m m' : ℕ) → ZeroAccepts (find_call re im m m')
unfolding numbered
find_0 re im m m' = 0_accepts _ (find_refusals re im m m') tt
