-- Laws of a sum over a range. Assumes nothing.
use mathlib.Core.Path.{◌≡◌, refl, sym, ap, ap₂, ◌∙◌}
use mathlib.Core.Logic.{◌≢◌}
use Prim.Native.Nat.{ℕ, zero, suc, ◌+◌, ◌*◌, ◌<◌}
use native.Mathlib.Nat.{not-suc-le-zero, add-zero, add-suc, zero-mul, suc-mul}
use native.Mathlib.Decide.{ℕ_discrete}
use native.Mathlib.Omega.{arith}
use native.Mathlib.Numerals.{add-one}
use lib.IntN.{ℤ, ◌+ℤ◌, +ℤ_assoc}
use Rattle.complex.specs.declared.Complex.{Complex}
use Rattle.complex.specs.Arithmetic.{◌+j◌, real, 𝟎, ◌⊕◌, ◌⊗◌, conj, Σ<, Σℤ<}
use Rattle.complex.proofs.Integers.{ring}
use Rattle.complex.proofs.Ring.{sums, ⊕-assoc, ⊕-𝟎, 𝟎-⊕, ⊗-𝟎, ⊗-⊕, conj-⊕, real_+ℤ}

pub Σ_𝟎 : (n : ℕ) → Σ< n (λ i. 𝟎) ≡ 𝟎
unfolding Σ<
Σ_𝟎 zero = refl
Σ_𝟎 (suc n) = rw (Σ_𝟎 n, ⊕-𝟎)

-- one term more, as a loop adds it
pub Σ_more : (n : ℕ) (f : ℕ → Complex) → Σ< (n + 1) f ≡ Σ< n f ⊕ f n
unfolding Σ<
Σ_more n f = rw add-one

-- equal terms, equal sums
pub Σ_cong : (n : ℕ) (f g : ℕ → Complex) → ((i : ℕ) → i < n → f i ≡ g i) → Σ< n f ≡ Σ< n g
unfolding Σ<
Σ_cong zero f g h = refl
Σ_cong (suc n) f g h = ap₂ ◌⊕◌ (Σ_cong n f g (λ i l. h i (omega arith))) (h n (omega arith))

pub Σ-⊕ : (n : ℕ) (f g : ℕ → Complex) → Σ< n (λ i. f i ⊕ g i) ≡ Σ< n f ⊕ Σ< n g
unfolding Σ<
Σ-⊕ zero f g = sym (⊕-𝟎 𝟎)
Σ-⊕ (suc n) f g = rw (Σ-⊕ n f g) (simp sums)

-- a factor of every term
pub ⊗-Σ : (n : ℕ) (f : ℕ → Complex) (x : Complex) → x ⊗ Σ< n f ≡ Σ< n (λ i. x ⊗ f i)
unfolding Σ<
⊗-Σ zero f x = ⊗-𝟎 x
⊗-Σ (suc n) f x = ⊗-⊕ x (Σ< n f) (f n) ∙ ap (λ (t : Complex). t ⊕ x ⊗ f n) (⊗-Σ n f x)

pub conj_Σ : (n : ℕ) (f : ℕ → Complex) → conj (Σ< n f) ≡ Σ< n (λ i. conj (f i))
unfolding Σ< 𝟎 conj
conj_Σ zero f = refl
conj_Σ (suc n) f = conj-⊕ (Σ< n f) (f n) ∙ ap (λ (t : Complex). t ⊕ conj (f n)) (conj_Σ n f)

-- two sums change places
pub Σ_swap : (m n : ℕ) (f : ℕ → ℕ → Complex) → Σ< m (λ i. Σ< n (λ j. f i j)) ≡ Σ< n (λ j. Σ< m (λ i. f i j))
unfolding Σ<
Σ_swap zero n f = sym (Σ_𝟎 n)
Σ_swap (suc m) n f = rw (Σ_swap m n f) (sym (Σ-⊕ n (λ j. Σ< m (λ i. f i j)) (f m)))

-- every term but one is 0
pub Σ_one : (n : ℕ) (f : ℕ → Complex) (k : ℕ) → k < n → ((i : ℕ) → i < n → i ≢ k → f i ≡ 𝟎) → Σ< n f ≡ f k
unfolding Σ<
Σ_one zero f k l h = absurd (not-suc-le-zero l)
Σ_one (suc n) f k l h = pick (ℕ_discrete n k) (λ m. Σ_one n f k m (λ i m d. h i (omega arith) d))
  where
    pick : Dec (n ≡ k) → (k < n → Σ< n f ≡ f k) → Σ< n f ⊕ f n ≡ f k
    pick (yes e) r = rw (Σ_cong n f (λ i. 𝟎) (λ i m. h i (omega arith) (omega arith)), Σ_𝟎, 𝟎-⊕, e)
    pick (no e) r = rw (h n (omega arith) e, ⊕-𝟎) (r (omega arith))

-- a sum in two parts, and in m parts of n terms
pub Σ-+ : (m n : ℕ) (f : ℕ → Complex) → Σ< (m + n) f ≡ Σ< m f ⊕ Σ< n (λ i. f (m + i))
unfolding Σ<
Σ-+ m zero f = rw (add-zero, ⊕-𝟎)
Σ-+ m (suc n) f = rw (add-suc, Σ-+ m n f) (⊕-assoc _ _ _)

pub Σ_blocks : (m n : ℕ) (f : ℕ → Complex) → Σ< (m * n) f ≡ Σ< m (λ r. Σ< n (λ i. f (r * n + i)))
unfolding Σ<
Σ_blocks zero n f = rw zero-mul
Σ_blocks (suc m) n f = rw (suc-mul, Σ-+ (m * n) n f, Σ_blocks m n f)

-- ---- sums of whole numbers
pub Σℤ_more : (n : ℕ) (f : ℕ → ℤ) → Σℤ< (n + 1) f ≡ Σℤ< n f +ℤ f n
unfolding Σℤ<
Σℤ_more n f = rw add-one

pub Σℤ_cong : (n : ℕ) (f g : ℕ → ℤ) → ((i : ℕ) → i < n → f i ≡ g i) → Σℤ< n f ≡ Σℤ< n g
unfolding Σℤ<
Σℤ_cong zero f g h = refl
Σℤ_cong (suc n) f g h = ap₂ ◌+ℤ◌ (Σℤ_cong n f g (λ i l. h i (omega arith))) (h n (omega arith))

-- a sum, component by component
pub Σ_components : (n : ℕ) (f g : ℕ → ℤ) → Σ< n (λ i. f i +j g i) ≡ Σℤ< n f +j Σℤ< n g
unfolding Σ< Σℤ< 𝟎 ◌⊕◌
Σ_components zero f g = refl
Σ_components (suc n) f g = ap (λ (t : Complex). t ⊕ (f n +j g n)) (Σ_components n f g)

pub real_Σ : (n : ℕ) (f : ℕ → ℤ) → real (Σℤ< n f) ≡ Σ< n (λ i. real (f i))
unfolding Σ< Σℤ< 𝟎 real
real_Σ zero f = refl
real_Σ (suc n) f = real_+ℤ (Σℤ< n f) (f n) ∙ ap (λ (t : Complex). t ⊕ real (f n)) (real_Σ n f)

pub Σℤ-+ : (n : ℕ) (f g : ℕ → ℤ) → Σℤ< n (λ i. f i +ℤ g i) ≡ Σℤ< n f +ℤ Σℤ< n g
unfolding Σℤ<
Σℤ-+ zero f g = refl
Σℤ-+ (suc n) f g = rw (Σℤ-+ n f g) (simp ring)

-- the terms two by two
pub Σℤ_pairs : (n : ℕ) (f : ℕ → ℤ) → Σℤ< (2 * n) f ≡ Σℤ< n (λ k. f (2 * k) +ℤ f (2 * k + 1))
unfolding Σℤ<
Σℤ_pairs zero f = refl
Σℤ_pairs (suc n) f =
    let e : 2 * suc n ≡ suc (suc (2 * n)) = omega arith in
    let d : 2 * n + 1 ≡ suc (2 * n) = omega arith in
    rw (e, d, Σℤ_pairs n f, +ℤ_assoc)
