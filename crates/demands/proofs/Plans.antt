-- At most sixteen codes are unrelated, so a plan of 17 records or more fails within the first 17: they alone decide its answer. Assumes nothing.
use mathlib.Core.Path.{◌≡◌, refl, sym, subst, ◌∙◌}
use mathlib.Core.Bool.{Bool, true, false, ◌&&◌, cond}
use mathlib.Core.List.{List, [], ◌∷◌}
use mathlib.Core.Option.{some}
use Prim.Native.Nat.{ℕ, zero, suc, ◌+◌, ◌<◌}
use native.Mathlib.Nat.{not-suc-le-zero, le_of_suc-le-suc}
use native.Mathlib.Omega.{arith}
use borrow.Author.Tests.{eq-eqb}
use lib.Dec.{eqb}
use lib.ListN.{length, take, replicate, length-set}
use Rattle.codes.specs.Refusals.{Answer, refused, gives}
use Rattle.codes.specs.Tree.{is_code, related}
use Rattle.codes.proofs.Refused.{Passed}
use Rattle.modulation.specs.Nodes.{node}
use Rattle.slot.specs.declared.Settings.{Settings}
use Rattle.slot.specs.Setup.{Setup, is_some, is_open}
use Rattle.slot.specs.Slot.{bit_count}
use Rattle.slot.specs.View.{view}
use Rattle.bench.specs.declared.Bench.{Bench}
use Rattle.bench.specs.declared.Channel.{Channel}
use Rattle.bench.specs.Changes as Tables
use Rattle.bench.specs.BenchCalls.{open_refusals, AnswerAt, refused_at, opened_in_order, load_plan_call}
use Rattle.bench.proofs.Accepted.{good_code, gain_range}
use Rattle.orthogonality.proofs.SixteenCodes.{sixteen_codes}
use Rattle.demands.specs.Reference.{opened, with_channel}
use Rattle.demands.proofs.Entries.{code_of, no_code_passes}
use Rattle.demands.proofs.TableLaws.{view_opened}
use Rattle.demands.proofs.Otherwise.{alike}
use Rattle.demands.proofs.Valid.{related_sym}

-- x, then f 0, f 1, ..
abbrev then : ℕ → (ℕ → ℕ) → ℕ → ℕ
then x f zero = x
then x f (suc i) = f i

-- n codes are open, no two of them related
record Taken (s : Setup) (n : ℕ) : Type 0 where
  pub Q : ℕ → ℕ
  pub k : ℕ → ℕ
  pub code : (i : ℕ) → i < n → is_code (Q i) (k i) ≡ true
  pub is_open : (i : ℕ) → i < n → is_open s (Q i) (k i) ≡ true
  pub apart : (i j : ℕ) → i < j → j < n → related (Q i) (k i) (Q j) (k j) ≡ false

-- what is open after (Q, k) was opened: the code itself, and every code that was open
open_then : (s : Setup) (Q k g : ℕ) → is_open (opened s Q k g) Q k ≡ true
unfolding with_channel
open_then s Q k g = rw (eq-eqb Q Q refl, eq-eqb k k refl)

open_still : (s : Setup) (Q k g Q' k' : ℕ) → is_open s Q' k' ≡ true → is_open (opened s Q k g) Q' k' ≡ true
unfolding with_channel
open_still s Q k g Q' k' o = go (eqb Q' Q && eqb k' k)
  where
    go : (t : Bool) → is_some (cond t (some (record { gain = g; bits = replicate (bit_count s.type Q) 0 })) (s.channel Q' k')) ≡ true
    go true = refl
    go false = o

module _ (s : Setup) (n Q k g : ℕ) (t : Taken s n) (p : Passed (open_refusals s Q k g)) where
  -- "related to an open code" did not hold
  unrelated : (i : ℕ) → i < n → related Q k (t.Q i) (t.k i) ≡ false
  unrelated i l =
      related_sym Q k (t.Q i) (t.k i)
      ∙ (rw (t.is_open i l) at (no_code_passes (λ Q' k'. is_open s Q' k' && related Q' k' Q k) p.1.1.1.0 (t.Q i) (t.k i) (code_of (t.Q i) (t.k i) (t.code i l))))

  one_more : Taken (opened s Q k g) (suc n)
  one_more =
      record {
        Q = then Q t.Q;
        k = then k t.k;
        code = λ i. code i;
        is_open = λ i. is_open_then i;
        apart = λ i j. apart i j;
      }
    where
      code : (i : ℕ) → i < suc n → is_code (then Q t.Q i) (then k t.k i) ≡ true
      code zero l = (good_code Q k p.0 p.1.0).listed
      code (suc i) l = t.code i (le_of_suc-le-suc l)

      is_open_then : (i : ℕ) → i < suc n → is_open (opened s Q k g) (then Q t.Q i) (then k t.k i) ≡ true
      is_open_then zero l = open_then s Q k g
      is_open_then (suc i) l = open_still s Q k g (t.Q i) (t.k i) (t.is_open i (le_of_suc-le-suc l))

      apart : (i j : ℕ) → i < j → j < suc n → related (then Q t.Q i) (then k t.k i) (then Q t.Q j) (then k t.k j) ≡ false
      apart i zero l h = absurd (not-suc-le-zero l)
      apart zero (suc j) l h = unrelated j (le_of_suc-le-suc h)
      apart (suc i) (suc j) l h = t.apart i j (le_of_suc-le-suc l) (le_of_suc-le-suc h)

-- with n codes taken, 17 - n more records decide
decided : (b : Bench) (left n : ℕ) → left + n ≡ 17 → (s : Settings) → length s.gains ≡ 31 → Taken (view s) n → (place : ℕ) (cs : List Channel)
    → opened_in_order place (Tables.with_settings b s) (take left cs) ≡ opened_in_order place (Tables.with_settings b s) cs
unfolding opened_in_order
decided b zero n e s z t place cs = absurd (omega (arith, sixteen_codes n t.Q t.k t.code t.apart))
decided b (suc left) n e s z t place [] = refl
decided b (suc left) n e s z t place (c ∷ cs) =
    alike (λ (x y : Answer Bench).
    ◌≡◌ {A = AnswerAt Bench} (elim x [ refused n ↦ refused_at n place | gives next ↦ opened_in_order (suc place) next (take left cs) ])
    (elim y [ refused n ↦ refused_at n place | gives next ↦ opened_in_order (suc place) next cs ]))
    (λ n. refl) (open_refusals (view s) c.q c.k c.gain) _ _
    (λ p.
    let code = (good_code c.q c.k p.0 p.1.0).listed in
    let v = view_opened s z c.q c.k code c.gain (λ g. omega (arith, (gain_range c.gain p.1.1.0).0)) p.1.1.1.0 in
    decided b left (suc n) (omega arith) _ (length-set s.gains (node c.q c.k) c.gain ∙ z)
    (subst (λ (x : Setup). Taken x (suc n)) (sym v) (one_more (view s) n c.q c.k c.gain t p)) (suc place) cs)

-- So whoever holds 17 records of a plan of any length has all that load plan's answer and new bench depend on.
pub first_17 : (b : Bench) (plan : List Channel) → load_plan_call b (take 17 plan) ≡ load_plan_call b plan
first_17 b plan = decided b 17 0 refl (Tables.all_closed b.settings) refl none_taken 0 plan
  where
    none_taken : Taken (view (Tables.all_closed b.settings)) 0
    none_taken =
        record {
          Q = λ i. 0;
          k = λ i. 0;
          code = λ i l. absurd (not-suc-le-zero l);
          is_open = λ i l. absurd (not-suc-le-zero l);
          apart = λ i j l h. absurd (not-suc-le-zero h);
        }
