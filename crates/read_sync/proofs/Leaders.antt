-- How the leaders of parts make the leader of the whole. Assumes nothing.
use mathlib.Core.Path.{◌≡◌, refl, sym, ap, ◌∙◌, subst}
use mathlib.Core.Logic.{◌≢◌}
use mathlib.Core.Bool.{Bool, true, false, ◌&&◌, cond}
use Prim.Native.Nat.{ℕ, ◌+◌, ◌-◌, ◌<◌, ◌≤◌}
use native.Mathlib.Decide.{dec_le}
use native.Mathlib.Nat.{lt_of_not-le}
use native.Mathlib.Omega.{arith}
use lib.Dec.{T}
use lib.IntN.{ℤ}
use lib.Signed.{le_z, lt_z}
use Rattle.complex.proofs.Integers.{by_parts}
use Rattle.complex.proofs.Order.{lt_z_true, lt_z_false, le_z_true, le_le_z, lt_lt_z}
use Rattle.read_sync.specs.Leaders.{leader_or_later, Leads}
use Rattle.read_sync.specs.declared.sync_reading.Leader.{Leader}

-- only the n scores count
pub leads_cong : (s t : ℕ → ℤ) (n : ℕ) (b : Leader) → ((k : ℕ) → k < n → s k ≡ t k) → Leads s n b → Leads t n b
leads_cong s t n b e h =
    let own = e b.at h.below in
    record {
      below = h.below;
      own = h.own ∙ own;
      largest = λ k l. sym (λ i. le_z (e k l i) (own i)) ∙ h.largest k l;
      others = λ a k l d. sym (λ i. lt_z (e k l i) (own i)) ∙ h.others a k l d;
      tied = λ f. let u = h.tied f in (u.0, u.1, u.2, sym (e u.0 u.1) ∙ u.3 ∙ own);
    }

-- ---- the candidates from n on after those below
module _ (n m : ℕ) where
  either : (P : ℕ → Type 0) → ((k : ℕ) → k < n → P k) → ((k : ℕ) → k < m → P (n + k)) → (k : ℕ) → k < n + m → P k
  either P f g k l = pick (dec_le n k)
    where
      pick : Dec (n ≤ k) → P k
      pick (yes q) = let e : n + (k - n) ≡ k = omega arith in subst P e (g (k - n) (omega arith))
      pick (no q) = f k (lt_of_not-le q)

  pub leads_or_later : (s : ℕ → ℤ) (b c : Leader) → Leads s n b → Leads (λ k. s (n + k)) m c → Leads s (n + m) (leader_or_later b n c)
  leads_or_later s b c h g = go (lt_z b.score c.score) refl (lt_z c.score b.score) refl
    where
      own : ℤ
      own = s b.at

      new : ℤ
      new = s (n + c.at)

      above : {t : Bool} → lt_z b.score c.score ≡ t → lt_z own new ≡ t
      above q = sym (λ i. lt_z (h.own i) (g.own i)) ∙ q

      under : {t : Bool} → lt_z c.score b.score ≡ t → lt_z new own ≡ t
      under q = sym (λ i. lt_z (g.own i) (h.own i)) ∙ q

      -- the new one passes the leader
      passed : lt_z own new ≡ true → (k : ℕ) → k < n → lt_z (s k) new ≡ true
      passed q k l = lt_lt_z (s k) new (omega (arith, lt_z_true own new q, le_z_true (s k) own (h.largest k l)))

      -- it does not
      kept : lt_z own new ≡ false → (k : ℕ) → k < n + m → le_z (s k) own ≡ true
      kept q = either (λ k. le_z (s k) own ≡ true) h.largest (λ k l. le_le_z (s (n + k)) own (omega (arith, lt_z_false own new q, le_z_true (s (n + k)) new (g.largest k l))))

      go : (t : Bool) → lt_z b.score c.score ≡ t → (u : Bool) → lt_z c.score b.score ≡ u
          → Leads s (n + m) (cond t (record { at = n + c.at; score = c.score; alone = c.alone }) (record { at = b.at; score = b.score; alone = u && b.alone }))
      go true q u w =
          record {
            below = omega (arith, g.below);
            own = g.own;
            largest = either (λ k. le_z (s k) new ≡ true) (λ k l. le_le_z (s k) new (omega (arith, lt_z_true (s k) new (passed (above q) k l)))) g.largest;
            others = λ a. either (λ k. k ≢ n + c.at → lt_z (s k) new ≡ true) (λ k l d. passed (above q) k l) (λ k l d. g.others a k l (λ e. d (ap (λ (j : ℕ). n + j) e)));
            tied = λ f. let t = g.tied f in (n + t.0, omega (arith, t.1), λ z. t.2 (omega (arith, z)), t.3);
          }
      go false q true w =
          record {
            below = omega (arith, h.below);
            own = h.own;
            largest = kept (above q);
            others = λ a. either (λ k. k ≢ b.at → lt_z (s k) own ≡ true) (h.others a) (λ k l d. lt_lt_z (s (n + k)) own (omega (arith, lt_z_true new own (under w), le_z_true (s (n + k)) new (g.largest k l))));
            tied = λ f. let t = h.tied f in (t.0, omega (arith, t.1), t.2, t.3);
          }
      go false q false w =
          record {
            below = omega (arith, h.below);
            own = h.own;
            largest = kept (above q);
            others = λ a. absurd (subst T (sym a) tt);
            tied =
                λ _. (
                  n + c.at,
                  omega (arith, g.below),
                  λ z. absurd (omega (arith, h.below, z)),
                  by_parts new own (omega (arith, lt_z_false own new (above q), lt_z_false new own (under w))),
                );
          }

-- the same from `first` on
pub leads_joined : (s : ℕ → ℤ) (first n m : ℕ) (b c : Leader) → Leads (λ k. s (first + k)) n b → Leads (λ k. s (first + n + k)) m c → Leads (λ k. s (first + k)) (n + m) (leader_or_later b n c)
leads_joined s first n m b c h g =
    leads_or_later n m (λ k. s (first + k)) b c h (leads_cong (λ k. s (first + n + k)) (λ k. s (first + (n + k))) m c (λ k l. let e : first + n + k ≡ first + (n + k) = omega arith in ap s e) g)

-- ---- the candidates in another order: p and q undo each other
pub leads_placed : (s : ℕ → ℤ) (n : ℕ) (p q : ℕ → ℕ) → ((k : ℕ) → k < n → (p k < n) × (q k < n) × (p (q k) ≡ k) × (q (p k) ≡ k))
    → (b : Leader) → Leads (λ k. s (p k)) n b → Leads s n (record { at = p b.at; score = b.score; alone = b.alone })
leads_placed s n p q u b h =
    record {
      below = (u b.at h.below).0;
      own = h.own;
      largest = λ k l. sym (ap (λ (j : ℕ). le_z (s j) (s (p b.at))) (u k l).2) ∙ h.largest (q k) (u k l).1;
      others = λ a k l d. sym (ap (λ (j : ℕ). lt_z (s j) (s (p b.at))) (u k l).2) ∙ h.others a (q k) (u k l).1 (λ z. d (sym (u k l).2 ∙ ap p z));
      tied = λ f. let t = h.tied f in (p t.0, (u t.0 t.1).0, λ z. t.2 (sym (u t.0 t.1).3 ∙ ap q z ∙ (u b.at h.below).3), t.3);
    }
