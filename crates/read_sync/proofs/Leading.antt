-- The leader of all candidates is the one that beats every other, or there is none where it is not alone. Assumes nothing.
use mathlib.Core.Path.{◌≡◌, sym, ap, ◌∙◌}
use mathlib.Core.Logic.{◌≢◌}
use mathlib.Core.Bool.{true, false, ◌||◌}
use Prim.Native.Nat.{ℕ, ◌<◌}
use native.Mathlib.Decide.{ℕ_discrete}
use native.Mathlib.Omega.{arith}
use borrow.Author.Tests.{eq-eqb, ne_eqb}
use lib.Dec.{eqb}
use lib.IntN.{ℤ}
use lib.Signed.{lt_z}
use Rattle.complex.proofs.Order.{lt_z_true, le_z_true, le_lt_z}
use Rattle.codes.specs.Range.{each}
use Rattle.codes.proofs.Tests.{each_all, each_not}
use Rattle.analyser_parts.specs.Choice.{smallest, beats_others}
use Rattle.analyser_parts.proofs.Smallest.{smallest_is, smallest_none}
use Rattle.read_sync.specs.Leaders.{Leads}
use Rattle.read_sync.specs.declared.sync_reading.Leader.{Leader}

-- ---- the number whose value is larger than that of every other
module _ (n : ℕ) (s : ℕ → ℤ) (own : ℕ) (l : own < n) (more : (k : ℕ) → k < n → k ≢ own → lt_z (s k) (s own) ≡ true) where
  beats : beats_others n s own ≡ true
  unfolding beats_others
  beats = each_all n (λ k. eqb k own || lt_z (s k) (s own)) (λ k g. go k g (ℕ_discrete k own))
    where
      go : (k : ℕ) → k < n → Dec (k ≡ own) → (eqb k own || lt_z (s k) (s own)) ≡ true
      go k g (yes e) = rw (eq-eqb k own e)
      go k g (no d) = rw (ne_eqb k own d) (more k g d)

  beaten : (i : ℕ) → i < own → beats_others n s i ≡ false
  unfolding beats_others
  beaten i g = each_not n (λ k. eqb k i || lt_z (s k) (s i)) own l (rw (ne_eqb own i (omega arith)) (le_lt_z (s own) (s i) (omega (arith, lt_z_true (s i) (s own) (more i (omega arith) (omega arith))))))

  pub beats_all : smallest n (beats_others n s) ≡ own
  beats_all = smallest_is n (beats_others n s) own l beats beaten

-- ---- the leader
module _ (s : ℕ → ℤ) where
  -- a leader that is alone is the one that beats every other; where it is not alone, none does
  module _ (n : ℕ) (b : Leader) (h : Leads s n b) where
    pub leads_is : b.alone ≡ true → smallest n (beats_others n s) ≡ b.at
    leads_is a = beats_all n s b.at h.below (h.others a)

    pub leads_none : b.alone ≡ false → smallest n (beats_others n s) ≡ n
    unfolding beats_others
    leads_none a = smallest_none n (beats_others n s) (λ i l. go i l (ℕ_discrete i b.at))
      where
        t : (k : ℕ) × (k < n) × (k ≢ b.at) × (s k ≡ s b.at)
        t = h.tied a

        -- the leader is equalled by the tied one, any other is at most the leader
        go : (i : ℕ) → i < n → Dec (i ≡ b.at) → each n (λ k. eqb k i || lt_z (s k) (s i)) ≡ false
        go i l (yes q) =
            each_not n (λ k. eqb k i || lt_z (s k) (s i)) t.0 t.1
            (rw (ne_eqb t.0 i (λ z. t.2 (z ∙ q))) (le_lt_z (s t.0) (s i) (rw (ap s q, t.3) (omega arith))))
        go i l (no q) =
            each_not n (λ k. eqb k i || lt_z (s k) (s i)) b.at h.below
            (rw (ne_eqb b.at i (λ z. q (sym z))) (le_lt_z (s b.at) (s i) (omega (arith, le_z_true (s i) (s b.at) (h.largest i l)))))
