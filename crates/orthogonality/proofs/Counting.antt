-- Sums of natural numbers, and counting a table by rows and by columns. Assumes nothing.
use mathlib.Core.Path.{◌≡◌, refl, sym, ◌∙◌}
use mathlib.Core.Bool.{Bool, true, false}
use mathlib.Core.Logic.{◌≢◌}
use Prim.Native.Nat.{ℕ, zero, suc, ◌+◌, ◌*◌, ◌<◌, ◌≤◌}
use native.Mathlib.Decide.{ℕ_discrete, dec_le}
use native.Mathlib.Nat.{not-suc-le-zero, le_refl, le_trans}
use native.Mathlib.Omega.{arith}
use borrow.Author.Tests.{eqb-true, eq-eqb}
use lib.Dec.{eqb}
use Rattle.orthogonality.specs.Gains.{Σℕ<}

module _ (f g : ℕ → ℕ) where
  sum_le : (n : ℕ) → ((i : ℕ) → i < n → f i ≤ g i) → Σℕ< n f ≤ Σℕ< n g
  unfolding Σℕ<
  sum_le zero h = le_refl 0
  sum_le (suc n) h = omega (arith, sum_le n (λ i l. h i (omega arith)), h n (omega arith))

  sum-+ : (n : ℕ) → Σℕ< n (λ i. f i + g i) ≡ Σℕ< n f + Σℕ< n g
  unfolding Σℕ<
  sum-+ zero = refl
  sum-+ (suc n) = omega (arith, sum-+ n)

-- n equal terms
sum_same : (n b : ℕ) → Σℕ< n (λ i. b) ≡ n * b
unfolding Σℕ<
sum_same zero b = omega arith
sum_same (suc n) b = omega (arith, sum_same n b)

module _ (f : ℕ → ℕ) where
  sum_zero : (n : ℕ) → ((i : ℕ) → i < n → f i ≡ 0) → Σℕ< n f ≡ 0
  unfolding Σℕ<
  sum_zero zero h = refl
  sum_zero (suc n) h = omega (arith, sum_zero n (λ i l. h i (omega arith)), h n (omega arith))

  -- a term is at most the sum
  term_le : (n k : ℕ) → k < n → f k ≤ Σℕ< n f
  unfolding Σℕ<
  term_le zero k l = absurd (not-suc-le-zero l)
  term_le (suc n) k l = pick (ℕ_discrete n k) (λ m. term_le n k m)
    where
      pick : Dec (n ≡ k) → (k < n → f k ≤ Σℕ< n f) → f k ≤ Σℕ< n f + f n
      pick (yes e) r = rw (← e) (omega arith)
      pick (no e) r = omega (arith, r (omega arith))

  -- a sum of which at most one term is not 0
  sum_alone : (n b : ℕ) → ((i : ℕ) → i < n → f i ≤ b) → ((i j : ℕ) → i < n → j < n → i ≢ j → f i ≢ 0 → f j ≡ 0) → Σℕ< n f ≤ b
  unfolding Σℕ<
  sum_alone zero b m h = omega arith
  sum_alone (suc n) b m h = pick (ℕ_discrete (f n) 0) (sum_alone n b (λ i l. m i (omega arith)) (λ i j l k. h i j (omega arith) (omega arith)))
    where
      pick : Dec (f n ≡ 0) → Σℕ< n f ≤ b → Σℕ< n f + f n ≤ b
      pick (yes e) r = omega arith
      pick (no o) r = omega (arith, sum_zero n (λ i l. h n i (omega arith) (omega arith) (omega arith) o), m n (omega arith))

sum_swap : (m n : ℕ) (f : ℕ → ℕ → ℕ) → Σℕ< m (λ i. Σℕ< n (λ j. f i j)) ≡ Σℕ< n (λ j. Σℕ< m (λ i. f i j))
unfolding Σℕ<
sum_swap zero n f = sym (sum_zero (λ j. 0) n (λ j l. refl))
sum_swap (suc m) n f = rw (sum_swap m n f) (sym (sum-+ (λ j. Σℕ< m (λ i. f i j)) (f m) n))

-- A table of n rows and m columns, each column with at most one entry that is not 0, and that at most b: however the rows add up,
-- all of it is at most m times b.
pub by_columns : (n m b : ℕ) (f : ℕ → ℕ → ℕ) (row : ℕ → ℕ) → ((i : ℕ) → i < n → row i ≤ Σℕ< m (f i))
    → ((i x : ℕ) → i < n → x < m → f i x ≤ b) → ((i j x : ℕ) → i < n → j < n → x < m → i ≢ j → f i x ≢ 0 → f j x ≡ 0) → Σℕ< n row ≤ m * b
by_columns n m b f row r h a =
    le_trans (sum_le row (λ i. Σℕ< m (f i)) n r)
    (rw (sum_swap n m f, ← (sum_same m b))
    (sum_le (λ x. Σℕ< n (λ i. f i x)) (λ x. b) m (λ x l. sum_alone (λ i. f i x) n b (λ i k. h i x k l) (λ i j k k'. a i j x k k' l))))

-- ---- n different numbers below m: there are at most m of them
abbrev count : Bool → ℕ
count true = 1
count false = 0

count_le : (t : Bool) → count t ≤ 1
count_le true = le_refl 1
count_le false = omega arith

pub pigeonhole : (n m : ℕ) (f : ℕ → ℕ) → ((i : ℕ) → i < n → f i < m) → ((i j : ℕ) → i < j → j < n → f i ≢ f j) → n ≤ m
pigeonhole n m f h a =
    omega (
      arith,
      sum_same n 1,
      by_columns n m 1 (λ i x. count (eqb (f i) x)) (λ i. 1) (λ i l. le_trans (here i) (term_le (λ x. count (eqb (f i) x)) m (f i) (h i l)))
          (λ i x l g. count_le (eqb (f i) x)) (λ i j x l g k d. other i j x l g d (eqb (f i) x) refl (eqb (f j) x) refl),
    )
  where
    here : (i : ℕ) → 1 ≤ count (eqb (f i) (f i))
    here i = rw (eq-eqb (f i) (f i) refl) (le_refl 1)

    differ : (i j : ℕ) → i < n → j < n → i ≢ j → Dec (i ≤ j) → f i ≢ f j
    differ i j l g d (yes k) e = a i j (omega arith) g e
    differ i j l g d (no k) e = a j i (omega arith) l (sym e)

    other : (i j x : ℕ) → i < n → j < n → i ≢ j → (s : Bool) → eqb (f i) x ≡ s → (t : Bool) → eqb (f j) x ≡ t → count s ≢ 0 → count t ≡ 0
    other i j x l g d false e t e' o = absurd (o refl)
    other i j x l g d true e false e' o = refl
    other i j x l g d true e true e' o = absurd (differ i j l g d (dec_le i j) (eqb-true (f i) x e ∙ sym (eqb-true (f j) x e')))
