-- The scan that keeps the largest value so far, the earliest of equal ones, finds what the definition chooses. Assumes nothing.
use mathlib.Core.Path.{◌≡◌, refl, sym, ap, ◌∙◌, subst}
use mathlib.Core.Bool.{Bool, true, false, cond}
use Prim.Native.Nat.{ℕ, ◌+◌, ◌<◌}
use native.Mathlib.Decide.{ℕ_discrete}
use native.Mathlib.Omega.{arith}
use lib.IntN.{ℤ}
use lib.Signed.{le_z, lt_z}
use Rattle.complex.proofs.Order.{lt_z_true, lt_z_false, le_z_true, le_le_z, lt_lt_z, lt_le_z}
use Rattle.codes.proofs.Tests.{each_all, each_not}
use Rattle.analyser_parts.specs.Choice.{smallest, has_largest}
use Rattle.analyser_parts.specs.Peaks.{or_later, Peaks}
use Rattle.analyser_parts.specs.declared.largest.Largest.{Largest}
use Rattle.analyser_parts.proofs.Smallest.{smallest_is}

-- what holds below n and at n
pub next : (P : ℕ → Type 0) (n : ℕ) → ((k : ℕ) → k < n → P k) → P n → (k : ℕ) → k < n + 1 → P k
next P n f g k l = pick (ℕ_discrete k n)
  where
    pick : Dec (k ≡ n) → P k
    pick (yes q) = subst P (sym q) g
    pick (no q) = f k (omega arith)

-- ---- the largest value, the earliest where several are
module _ (s : ℕ → ℤ) where
  pub peaks_one : (b : Largest) → b.at ≡ 0 → b.value ≡ s 0 → Peaks s 1 b
  peaks_one b z e =
      record {
        below = omega (arith, z);
        own = e ∙ ap s (sym z);
        largest = λ k l. let q : k ≡ b.at = omega (arith, z) in ap (λ (j : ℕ). le_z (s j) (s b.at)) q ∙ le_le_z (s b.at) (s b.at) (omega arith);
        earliest = λ k l. absurd (omega (arith, z));
      }

  pub peaks_more : (n : ℕ) (b : Largest) → Peaks s n b → (v : ℤ) → v ≡ s n → Peaks s (n + 1) (or_later b (record { at = n; value = v }))
  peaks_more n b h v e = go (lt_z b.value v) refl
    where
      test : {t : Bool} → lt_z b.value v ≡ t → lt_z (s b.at) (s n) ≡ t
      test q = sym (λ i. lt_z (h.own i) (e i)) ∙ q

      go : (t : Bool) → lt_z b.value v ≡ t → Peaks s (n + 1) (cond t (record { at = n; value = v }) b)
      go true q =
          record {
            below = omega arith;
            own = e;
            largest = next (λ k. le_z (s k) (s n) ≡ true) n (λ k l. le_le_z (s k) (s n) (omega (arith, lt_z_true (s b.at) (s n) (test q), le_z_true (s k) (s b.at) (h.largest k l)))) (le_le_z (s n) (s n) (omega arith));
            earliest = λ k l. lt_lt_z (s k) (s n) (omega (arith, lt_z_true (s b.at) (s n) (test q), le_z_true (s k) (s b.at) (h.largest k l)));
          }
      go false q =
          record {
            below = omega (arith, h.below);
            own = h.own;
            largest = next (λ k. le_z (s k) (s b.at) ≡ true) n h.largest (le_le_z (s n) (s b.at) (omega (arith, lt_z_false (s b.at) (s n) (test q))));
            earliest = h.earliest;
          }

  pub peaks_is : (n : ℕ) (b : Largest) → Peaks s n b → smallest n (has_largest n s) ≡ b.at
  unfolding has_largest
  peaks_is n b h =
      smallest_is n (has_largest n s) b.at h.below (each_all n (λ k. le_z (s k) (s b.at)) h.largest)
      (λ i l. each_not n (λ k. le_z (s k) (s i)) b.at h.below (lt_le_z (s b.at) (s i) (omega (arith, lt_z_true (s i) (s b.at) (h.earliest i l)))))

  -- only the n values count
  pub peaks_cong : (t : ℕ → ℤ) (n : ℕ) (b : Largest) → ((k : ℕ) → k < n → s k ≡ t k) → Peaks s n b → Peaks t n b
  peaks_cong t n b e h =
      let own = e b.at h.below in
      record {
        below = h.below;
        own = h.own ∙ own;
        largest = λ k l. sym (λ i. le_z (e k l i) (own i)) ∙ h.largest k l;
        earliest = λ k l. let m : k < n = omega (arith, l, h.below) in sym (λ i. lt_z (e k m i) (own i)) ∙ h.earliest k l;
      }
