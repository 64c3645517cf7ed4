-- The leader of all sums of two scores, and of a number and its negative. Assumes nothing.
use mathlib.Core.Path.{◌≡◌, refl, sym, ap, ◌∙◌, subst}
use mathlib.Core.Logic.{◌≢◌}
use mathlib.Core.Bool.{Bool, true, false, ◌&&◌, cond}
use Prim.Native.Nat.{ℕ, ◌+◌, ◌*◌, ◌/◌, ◌%◌, ◌<◌}
use native.Mathlib.Decide.{ℕ_discrete}
use native.Mathlib.Omega.{arith}
use lib.Dec.{T, eqb}
use lib.IntN.{ℤ, pos, neg_ℤ, ◌+ℤ◌, ◌*ℤ◌}
use lib.Signed.{le_z, lt_z}
use Rattle.complex.proofs.Integers.{by_parts, +ℤ_parts, negℤ_pos_part, negℤ_neg_part, pos_one_*ℤ, negsuc_zero_*ℤ}
use Rattle.complex.proofs.Order.{lt_z_true, lt_z_false, le_z_true, le_le_z, lt_lt_z}
use Rattle.codes.specs.Signs.{minus_if}
use Rattle.read_sync.specs.Leaders.{leader_of_signs, leader_with, Leads}
use Rattle.read_sync.specs.declared.sync_reading.Leader.{Leader}

-- ---- sums of two scores
add_le : (a b c d : ℤ) → le_z a c ≡ true → le_z b d ≡ true → le_z (a +ℤ b) (c +ℤ d) ≡ true
add_le a b c d h g = le_le_z (a +ℤ b) (c +ℤ d) (omega (arith, +ℤ_parts a b, +ℤ_parts c d, le_z_true a c h, le_z_true b d g))

add_lt_le : (a b c d : ℤ) → lt_z a c ≡ true → le_z b d ≡ true → lt_z (a +ℤ b) (c +ℤ d) ≡ true
add_lt_le a b c d h g = lt_lt_z (a +ℤ b) (c +ℤ d) (omega (arith, +ℤ_parts a b, +ℤ_parts c d, lt_z_true a c h, le_z_true b d g))

add_le_lt : (a b c d : ℤ) → le_z a c ≡ true → lt_z b d ≡ true → lt_z (a +ℤ b) (c +ℤ d) ≡ true
add_le_lt a b c d h g = lt_lt_z (a +ℤ b) (c +ℤ d) (omega (arith, +ℤ_parts a b, +ℤ_parts c d, le_z_true a c h, lt_z_true b d g))

module _ (f g : ℕ → ℤ) (n : ℕ) (b c : Leader) (h : Leads f n b) (k : Leads g 2 c) where
  abbrev sum : ℕ → ℤ
  sum i = f (i / 2) +ℤ g (i % 2)

  sum_at : (i j : ℕ) → j < 2 → sum (2 * i + j) ≡ f i +ℤ g j
  sum_at i j l =
      let q : (2 * i + j) / 2 ≡ i = omega arith in
      let r : (2 * i + j) % 2 ≡ j = omega arith in
      λ t. f (q t) +ℤ g (r t)

  top : sum (2 * b.at + c.at) ≡ f b.at +ℤ g c.at
  top = sum_at b.at c.at k.below

  pub leads_with : Leads sum (2 * n) (leader_with b c)
  leads_with =
      record {
        below = omega (arith, h.below, k.below);
        own = (λ i. h.own i +ℤ k.own i) ∙ sym top;
        largest = λ i l. ap (le_z (sum i)) top ∙ add_le (f (i / 2)) (g (i % 2)) (f b.at) (g c.at) (h.largest (i / 2) (omega arith)) (k.largest (i % 2) (omega arith));
        others = λ a i l d. ap (lt_z (sum i)) top ∙ less a i l d (ℕ_discrete (i / 2) b.at);
        tied = λ a. equal b.alone refl a;
      }
    where
      both : (s t : Bool) → (s && t) ≡ true → (s ≡ true) × (t ≡ true)
      both true t e = (refl, e)
      both false t e = absurd (subst T (sym e) tt)

      less : (b.alone && c.alone) ≡ true → (i : ℕ) → i < 2 * n → i ≢ 2 * b.at + c.at → Dec (i / 2 ≡ b.at) → lt_z (sum i) (f b.at +ℤ g c.at) ≡ true
      less a i l d (yes e) = add_le_lt (f (i / 2)) (g (i % 2)) (f b.at) (g c.at) (h.largest (i / 2) (omega arith)) (k.others (both b.alone c.alone a).1 (i % 2) (omega arith) (λ z. d (omega (arith, e, z))))
      less a i l d (no e) = add_lt_le (f (i / 2)) (g (i % 2)) (f b.at) (g c.at) (h.others (both b.alone c.alone a).0 (i / 2) (omega arith) e) (k.largest (i % 2) (omega arith))

      equal : (s : Bool) → b.alone ≡ s → (b.alone && c.alone) ≡ false → (i : ℕ) × (i < 2 * n) × (i ≢ 2 * b.at + c.at) × (sum i ≡ sum (2 * b.at + c.at))
      equal true e a =
          let t = k.tied (sym (ap (λ (s : Bool). s && c.alone) e) ∙ a) in
          (2 * b.at + t.0, omega (arith, h.below, t.1), λ z. t.2 (omega (arith, z)), sum_at b.at t.0 t.1 ∙ ap (λ (x : ℤ). f b.at +ℤ x) t.3 ∙ sym top)
      equal false e a =
          let t = h.tied e in
          (2 * t.0 + c.at, omega (arith, k.below, t.1), λ z. t.2 (omega (arith, z)), sum_at t.0 c.at k.below ∙ ap (λ (x : ℤ). x +ℤ g c.at) t.3 ∙ sym top)

-- ---- a number and its negative
module _ (x : ℤ) where
  abbrev signs : ℕ → ℤ
  signs k = minus_if (eqb k 1) *ℤ x

  two : (P : ℕ → Type 0) → P 0 → P 1 → (k : ℕ) → k < 2 → P k
  two P p q k l = pick (ℕ_discrete k 0)
    where
      pick : Dec (k ≡ 0) → P k
      pick (yes e) = subst P (sym e) p
      pick (no e) = let d : 1 ≡ k = omega arith in subst P d q

  same_sign : signs 0 ≡ x
  same_sign = pos_one_*ℤ x

  other_sign : signs 1 ≡ neg_ℤ x
  other_sign = negsuc_zero_*ℤ x

  pub leads_of_signs : Leads signs 2 (leader_of_signs x)
  leads_of_signs = go (lt_z x (pos 0)) refl (lt_z (pos 0) x) refl
    where
      le : {y z u v : ℤ} → y ≡ u → z ≡ v → le_z u v ≡ true → le_z y z ≡ true
      le e d q = (λ i. le_z (e i) (d i)) ∙ q

      lt : {y z u v : ℤ} → y ≡ u → z ≡ v → lt_z u v ≡ true → lt_z y z ≡ true
      lt e d q = (λ i. lt_z (e i) (d i)) ∙ q

      go : (s : Bool) → lt_z x (pos 0) ≡ s → (t : Bool) → lt_z (pos 0) x ≡ t → Leads signs 2 (cond s (record { at = 1; score = neg_ℤ x; alone = true }) (record { at = 0; score = x; alone = t }))
      go true q t r =
          record {
            below = omega arith;
            own = sym other_sign;
            largest = two (λ k. le_z (signs k) (signs 1) ≡ true)
                (le same_sign other_sign (le_le_z x (neg_ℤ x) (omega (arith, lt_z_true x (pos 0) q, negℤ_pos_part x, negℤ_neg_part x)))) (le_le_z (signs 1) (signs 1) (omega arith));
            others = λ _. two (λ k. k ≢ 1 → lt_z (signs k) (signs 1) ≡ true)
                (λ _. lt same_sign other_sign (lt_lt_z x (neg_ℤ x) (omega (arith, lt_z_true x (pos 0) q, negℤ_pos_part x, negℤ_neg_part x)))) (λ d. absurd (d refl));
            tied = λ f. absurd (subst T f tt);
          }
      go false q true r =
          record {
            below = omega arith;
            own = sym same_sign;
            largest = two (λ k. le_z (signs k) (signs 0) ≡ true)
                (le_le_z (signs 0) (signs 0) (omega arith)) (le other_sign same_sign (le_le_z (neg_ℤ x) x (omega (arith, lt_z_true (pos 0) x r, negℤ_pos_part x, negℤ_neg_part x))));
            others = λ _. two (λ k. k ≢ 0 → lt_z (signs k) (signs 0) ≡ true)
                (λ d. absurd (d refl)) (λ _. lt other_sign same_sign (lt_lt_z (neg_ℤ x) x (omega (arith, lt_z_true (pos 0) x r, negℤ_pos_part x, negℤ_neg_part x))));
            tied = λ f. absurd (subst T f tt);
          }
      go false q false r =
          let e : neg_ℤ x ≡ x = by_parts (neg_ℤ x) x (omega (arith, lt_z_false x (pos 0) q, lt_z_false (pos 0) x r, negℤ_pos_part x, negℤ_neg_part x)) in
          record {
            below = omega arith;
            own = sym same_sign;
            largest = two (λ k. le_z (signs k) (signs 0) ≡ true) (le_le_z (signs 0) (signs 0) (omega arith)) (le (other_sign ∙ e) same_sign (le_le_z x x (omega arith)));
            others = λ a. absurd (subst T (sym a) tt);
            tied = λ _. (1, omega arith, λ z. absurd (omega (arith, z)), other_sign ∙ e ∙ sym same_sign);
          }
