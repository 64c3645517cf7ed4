-- What a code is made of, and sums over all codes. Assumes nothing.
use mathlib.Core.Path.{◌≡◌, refl, sym, ap, ◌∙◌, subst}
use mathlib.Core.Bool.{Bool, true, ◌&&◌}
use Prim.Native.Nat.{ℕ, ◌^◌, ◌<◌}
use borrow.Author.Tests.{lt-ltb}
use mir.Facts.{and_yes}
use lib.Dec.{T, eqb, eqb→eq, ltb, ltb→lt, lit<}
use Rattle.complex.specs.declared.Complex.{Complex}
use Rattle.complex.specs.Arithmetic.{𝟎, ◌⊗◌, conj, Σ<}
use Rattle.complex.proofs.Sums.{Σ_𝟎, Σ_cong, Σ_one, Σ_swap, ⊗-Σ, conj_Σ}
use Rattle.codes.specs.Range.{each}
use Rattle.codes.specs.Tree.{is_spreading_factor, is_code, level}
use Rattle.codes.proofs.Tests.{each_at, T_true}
use Rattle.codes.proofs.Factors.{of_factors}
use Rattle.codes.proofs.Leaves.{each_code, at_code}
use Rattle.slot.specs.Slot.{over_codes}

-- ---- the factor and the index of a code
pub code_parts : (Q k : ℕ) → is_code Q k ≡ true → (is_spreading_factor Q ≡ true) × (k < Q)
code_parts Q k e =
    let p = and_yes (is_spreading_factor Q) (ltb k Q) (subst T (sym e) tt) in
    (T_true (is_spreading_factor Q) p.0, ltb→lt k Q p.1)

-- a test of every code, at one of them
pub at_every_code : (f : ℕ → ℕ → Bool) → T (each_code f) → (Q k : ℕ) → is_code Q k ≡ true → T (f Q k)
at_every_code f t Q k e = let p = code_parts Q k e in at_code f t Q k (subst T (sym p.0) tt) p.1

-- a factor is 2 to the power of its level, 0 to 4
factor_level : (Q : ℕ) → is_spreading_factor Q ≡ true → (level Q < 5) × (2 ^ level Q ≡ Q)
factor_level =
    of_factors (λ Q. (level Q < 5) × (2 ^ level Q ≡ Q)) (lit< tt, refl) (lit< tt, refl) (lit< tt, refl) (lit< tt, refl) (lit< tt, refl)

levels_test : T (each 5 (λ l. is_spreading_factor (2 ^ l) && eqb (level (2 ^ l)) l))
unfolding each
levels_test = tt

module _ (l : ℕ) (h : l < 5) where
  at_level : T (is_spreading_factor (2 ^ l)) × T (eqb (level (2 ^ l)) l)
  at_level =
      and_yes (is_spreading_factor (2 ^ l)) (eqb (level (2 ^ l)) l)
      (each_at 5 (λ l. is_spreading_factor (2 ^ l) && eqb (level (2 ^ l)) l) levels_test l h)

  -- and 2 to the power of 0 to 4 is a factor of that level
  pub factor_at : is_spreading_factor (2 ^ l) ≡ true
  factor_at = T_true (is_spreading_factor (2 ^ l)) at_level.0

  code_at : (k : ℕ) → k < 2 ^ l → is_code (2 ^ l) k ≡ true
  code_at k g = rw (factor_at, lt-ltb k (2 ^ l) g)

  pub own_level : level (2 ^ l) ≡ l
  own_level = eqb→eq (level (2 ^ l)) l at_level.1

-- ---- sums over all codes: level by level
pub by_level : (f : ℕ → ℕ → Complex) → over_codes f ≡ Σ< 5 (λ l. Σ< (2 ^ l) (f (2 ^ l)))
unfolding Σ<
by_level f = refl

module _ (f : ℕ → ℕ → Complex) where
  pub over_cong : (g : ℕ → ℕ → Complex) → ((Q k : ℕ) → is_code Q k ≡ true → f Q k ≡ g Q k) → over_codes f ≡ over_codes g
  over_cong g h =
      by_level f
      ∙ Σ_cong 5 _ (λ l. Σ< (2 ^ l) (g (2 ^ l))) (λ l m. Σ_cong (2 ^ l) (f (2 ^ l)) (g (2 ^ l)) (λ k j. h (2 ^ l) k (code_at l m k j)))
      ∙ sym (by_level g)

  pub ⊗-over : (x : Complex) → x ⊗ over_codes f ≡ over_codes (λ Q k. x ⊗ f Q k)
  ⊗-over x =
      ap (λ (t : Complex). x ⊗ t) (by_level f)
      ∙ ⊗-Σ 5 (λ l. Σ< (2 ^ l) (f (2 ^ l))) x
      ∙ Σ_cong 5 _ (λ l. Σ< (2 ^ l) (λ k. x ⊗ f (2 ^ l) k)) (λ l m. ⊗-Σ (2 ^ l) (f (2 ^ l)) x)
      ∙ sym (by_level (λ Q k. x ⊗ f Q k))

  pub conj_over : conj (over_codes f) ≡ over_codes (λ Q k. conj (f Q k))
  conj_over =
      ap conj (by_level f)
      ∙ conj_Σ 5 (λ l. Σ< (2 ^ l) (f (2 ^ l)))
      ∙ Σ_cong 5 _ (λ l. Σ< (2 ^ l) (λ k. conj (f (2 ^ l) k))) (λ l m. conj_Σ (2 ^ l) (f (2 ^ l)))
      ∙ sym (by_level (λ Q k. conj (f Q k)))

  -- every term but that of one code is 0
  pub over_one : (Q k : ℕ) → is_code Q k ≡ true
      → ((Q' k' : ℕ) → is_code Q' k' ≡ true → ((Q' ≡ Q) × (k' ≡ k) → ⊥) → f Q' k' ≡ 𝟎) → over_codes f ≡ f Q k
  over_one Q k e h =
      by_level f
      ∙ Σ_one 5 (λ l. Σ< (2 ^ l) (f (2 ^ l))) (level Q) o.0
      (λ l m d. none l (λ j g. h (2 ^ l) j (code_at l m j g) (λ s. d (sym (own_level l m) ∙ ap level s.0))))
      ∙ ap (λ (R : ℕ). Σ< R (f R)) o.1
      ∙ Σ_one Q (f Q) k p.1 (λ j m d. h Q j (rw (p.0, lt-ltb j Q m)) (λ s. d s.1))
    where
      p : (is_spreading_factor Q ≡ true) × (k < Q)
      p = code_parts Q k e

      o : (level Q < 5) × (2 ^ level Q ≡ Q)
      o = factor_level Q p.0

      none : (l : ℕ) → ((j : ℕ) → j < 2 ^ l → f (2 ^ l) j ≡ 𝟎) → Σ< (2 ^ l) (f (2 ^ l)) ≡ 𝟎
      none l g = Σ_cong (2 ^ l) (f (2 ^ l)) (λ j. 𝟎) g ∙ Σ_𝟎 (2 ^ l)

-- a sum of sums over all codes
pub Σ_over : (n : ℕ) (f : ℕ → ℕ → ℕ → Complex) → Σ< n (λ i. over_codes (f i)) ≡ over_codes (λ Q k. Σ< n (λ i. f i Q k))
Σ_over n f =
    Σ_cong n _ (λ i. Σ< 5 (λ l. Σ< (2 ^ l) (f i (2 ^ l)))) (λ i m. by_level (f i))
    ∙ Σ_swap n 5 (λ i l. Σ< (2 ^ l) (f i (2 ^ l)))
    ∙ Σ_cong 5 _ (λ l. Σ< (2 ^ l) (λ k. Σ< n (λ i. f i (2 ^ l) k))) (λ l m. Σ_swap n (2 ^ l) (λ i k. f i (2 ^ l) k))
    ∙ sym (by_level (λ Q k. Σ< n (λ i. f i Q k)))
