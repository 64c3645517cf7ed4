-- The largest size by blocks: a block that could hold no larger one is passed over. Assumes nothing.
use mathlib.Core.Path.{◌≡◌, refl, sym, ap, ◌∙◌, subst}
use mathlib.Core.Bool.{Bool, true, false, cond}
use mathlib.Core.Logic.{◌≢◌}
use mathlib.Core.List.{List}
use Prim.Native.Nat.{ℕ, ◌+◌, ◌*◌, ◌-◌, ◌<◌, ◌≤◌}
use native.Mathlib.Decide.{dec_le}
use native.Mathlib.Nat.{lt_of_not-le, mul-le-mul, add-mul, mul-add}
use native.Mathlib.Omega.{arith}
use lib.Dec.{T}
use lib.IntN.{ℤ, pos, negsuc, neg_ℤ, nat_abs, ◌+ℤ◌, ◌-ℤ◌, ◌*ℤ◌}
use lib.ListN.{length, set}
use lib.Seq.{get_or-set_same, get_or-set_other}
use lib.Signed.{le_z, lt_z}
use Rattle.complex.specs.Buffers.{◌at◌}
use Rattle.complex.specs.Arithmetic.{◌+j◌, squared_size}
use Rattle.complex.specs.Fits.{Within}
use Rattle.complex.proofs.Integers.{ring, abs_parts, by_parts, pos_part, neg_part, +ℤ_parts, negℤ_pos_part, negℤ_neg_part}
use Rattle.complex.proofs.Order.{lt_z_true, lt_z_false, le_z_true, le_z_false, le_le_z, lt_lt_z}
use Rattle.analyser_parts.specs.Peaks.{or_later, Peaks}
use Rattle.analyser_parts.specs.declared.largest.Largest.{Largest}
use Rattle.analyser_parts.proofs.Choosing.{next}
use Rattle.analyser_parts.proofs.Correlations.{times_one_minus_j}
use Rattle.find.specs.PeakSearch.{Bounded, Covers, lower_of, lowered_of, PeaksBelow, size_of}

-- ---- the starts passed
module _ (s : ℕ → ℤ) (count : ℕ) where
  -- where none counts, only where the value stands matters
  pub none_counts : (n : ℕ) (b : Largest) → b.at < count → b.value ≡ s b.at → PeaksBelow s (λ k. false) count n b
  none_counts n b l e = record { below = l; own = e; largest = λ k l q. absurd (subst T (sym q) tt); earliest = λ k l q. absurd (subst T (sym q) tt) }

  module _ (c : ℕ → Bool) where
    pub none_passed : (b : Largest) → 0 < count → b.at ≡ 0 → b.value ≡ s 0 → PeaksBelow s c count 0 b
    none_passed b l z e = record { below = omega (arith, z); own = e ∙ ap s (sym z); largest = λ k l. absurd (omega arith); earliest = λ k l. absurd (omega (arith, z)) }

    pub one_passed : (n : ℕ) (b : Largest) → n < count → PeaksBelow s c count n b → (v : ℤ) → v ≡ s n → PeaksBelow s c count (n + 1) (or_later b (record { at = n; value = v }))
    one_passed n b l h v e = go (lt_z b.value v) refl
      where
        test : {t : Bool} → lt_z b.value v ≡ t → lt_z (s b.at) (s n) ≡ t
        test q = sym (λ i. lt_z (h.own i) (e i)) ∙ q

        go : (t : Bool) → lt_z b.value v ≡ t → PeaksBelow s c count (n + 1) (cond t (record { at = n; value = v }) b)
        go true q =
            record {
              below = l;
              own = e;
              largest = next (λ k. c k ≡ true → le_z (s k) (s n) ≡ true) n (λ k l t. le_le_z (s k) (s n) (omega (arith, lt_z_true (s b.at) (s n) (test q), le_z_true (s k) (s b.at) (h.largest k l t)))) (λ t. le_le_z (s n) (s n) (omega arith));
              earliest = λ k l t. lt_lt_z (s k) (s n) (omega (arith, lt_z_true (s b.at) (s n) (test q), le_z_true (s k) (s b.at) (h.largest k l t)));
            }
        go false q =
            record {
              below = h.below;
              own = h.own;
              largest = next (λ k. c k ≡ true → le_z (s k) (s b.at) ≡ true) n h.largest (λ t. le_le_z (s n) (s b.at) (omega (arith, lt_z_false (s b.at) (s n) (test q))));
              earliest = h.earliest;
            }

    -- m values, of which none that counts is larger
    pub more_passed : (n m : ℕ) (b : Largest) → PeaksBelow s c count n b → ((i : ℕ) → i < m → c (n + i) ≡ true → le_z (s (n + i)) (s b.at) ≡ true) → PeaksBelow s c count (n + m) b
    more_passed n m b h u = record { below = h.below; own = h.own; largest = λ k l. go k l (dec_le n k); earliest = h.earliest }
      where
        go : (k : ℕ) → k < n + m → Dec (n ≤ k) → c k ≡ true → le_z (s k) (s b.at) ≡ true
        go k l (yes g) = let e : n + (k - n) ≡ k = omega arith in subst (λ (j : ℕ). c j ≡ true → le_z (s j) (s b.at) ≡ true) e (u (k - n) (omega arith))
        go k l (no g) = h.largest k (lt_of_not-le g)

  -- where the values from one of them on count, the largest of these is the largest of all
  pub all_passed : (b : Largest) (j : ℕ) → j < count → (v : ℤ) → v ≡ s j → PeaksBelow s (λ k. le_z v (s k)) count count b → Peaks s count b
  all_passed b j l v e h = record { below = h.below; own = h.own; largest = λ k l. le k l (le_z v (s k)) refl; earliest = λ k l. lt k l (le_z v (s k)) refl }
    where
      reached : pos_part v + neg_part (s b.at) ≤ pos_part (s b.at) + neg_part v
      reached = le_z_true v (s b.at) (subst (λ (z : ℤ). le_z z (s b.at) ≡ true) (sym e) (h.largest j l (ap (λ (z : ℤ). le_z z (s j)) e ∙ le_le_z (s j) (s j) (omega arith))))

      le : (k : ℕ) → k < count → (t : Bool) → le_z v (s k) ≡ t → le_z (s k) (s b.at) ≡ true
      le k l true q = h.largest k l q
      le k l false q = le_le_z (s k) (s b.at) (omega (arith, le_z_false v (s k) q, reached))

      lt : (k : ℕ) → k < b.at → (t : Bool) → le_z v (s k) ≡ t → lt_z (s k) (s b.at) ≡ true
      lt k l true q = h.earliest k l q
      lt k l false q = lt_lt_z (s k) (s b.at) (omega (arith, le_z_false v (s k) q, reached))

-- ---- a size is twice the sum of the squares
square : (x : ℤ) → x *ℤ x ≡ pos (nat_abs x * nat_abs x)
square (pos n) = refl
square (negsuc n) = refl

abbrev twice : ℤ → ℤ → ℤ
twice x y = pos ((nat_abs x * nat_abs x + nat_abs y * nat_abs y) + (nat_abs x * nat_abs x + nat_abs y * nat_abs y))

size_is_squares : (x y : ℤ) → size_of x y ≡ twice x y
unfolding size_of squared_size
size_is_squares x y =
    (λ i. let z = times_one_minus_j (x +j y) i in z.re *ℤ z.re +ℤ z.im *ℤ z.im)
    ∙ by x y
    ∙ (λ i. (square x i +ℤ square y i) +ℤ (square x i +ℤ square y i))
  where
    sorted : (x y : ℤ) → (x +ℤ y) *ℤ (x +ℤ y) +ℤ (y -ℤ x) *ℤ (y -ℤ x) ≡ ((x *ℤ x +ℤ y *ℤ y) +ℤ (x *ℤ x +ℤ y *ℤ y)) +ℤ ((x *ℤ y +ℤ neg_ℤ (x *ℤ y)) +ℤ (x *ℤ y +ℤ neg_ℤ (x *ℤ y)))
    sorted x y = simp ring

    by : (x y : ℤ) → (x +ℤ y) *ℤ (x +ℤ y) +ℤ (y -ℤ x) *ℤ (y -ℤ x) ≡ (x *ℤ x +ℤ y *ℤ y) +ℤ (x *ℤ x +ℤ y *ℤ y)
    by x y =
        let none : x *ℤ y +ℤ neg_ℤ (x *ℤ y) ≡ pos 0 = by_parts (x *ℤ y +ℤ neg_ℤ (x *ℤ y)) (pos 0) (omega (arith, +ℤ_parts (x *ℤ y) (neg_ℤ (x *ℤ y)), negℤ_pos_part (x *ℤ y), negℤ_neg_part (x *ℤ y))) in
        sorted x y ∙ (λ i. ((x *ℤ x +ℤ y *ℤ y) +ℤ (x *ℤ x +ℤ y *ℤ y)) +ℤ (none i +ℤ none i)) ∙ simp ring

-- a size is at most that of parts which are each as large as both together
pub size_least : (x y u : ℤ) → nat_abs x + nat_abs y ≤ nat_abs u → le_z (size_of x y) (squared_size (u +j u)) ≡ true
unfolding squared_size
size_least x y u h =
    let a = nat_abs x in
    let b = nat_abs y in
    (λ i. le_z (size_is_squares x y i) (square u i +ℤ square u i))
    ∙ le_le_z (twice x y) (pos (nat_abs u * nat_abs u + nat_abs u * nat_abs u)) (omega (arith, mul-le-mul h h, add-mul a b (a + b), mul-add a a b, mul-add b a b))

-- one block more
pub bounded_more : (s : ℕ → ℤ) (n : ℕ) (b : List ℤ) (v : ℤ) → n < length b → Bounded s n b → ((i : ℕ) → i < 32 → le_z (s (n * 32 + i)) v ≡ true) → Bounded s (n + 1) (set b n v)
unfolding ◌at◌
bounded_more s n b v m h u =
    record {
      each = next (λ k. (i : ℕ) → i < 32 → le_z (s (k * 32 + i)) ((set b n v) at k) ≡ true) n
          (λ k l i j. let o : k ≢ n = λ e. omega arith in rw (get_or-set_other b n k v (pos 0) o) (h.each k l i j))
          (λ i j. rw (get_or-set_same b n v (pos 0) m) (u i j));
    }

-- ---- the lowest of a block
-- a number that is not positive has no positive part
none_positive : (y : ℤ) → le_z y (pos 0) ≡ true → pos_part y ≡ 0
none_positive (pos n) h = omega (arith, le_z_true (pos n) (pos 0) h)
none_positive (negsuc n) h = refl

lowered_parts : (x : ℤ) → (pos_part (lowered_of x) ≡ 0) × (neg_part (lowered_of x) ≡ nat_abs x)
lowered_parts (pos n) = go (lt_z (pos 0) (pos n)) refl
  where
    go : (t : Bool) → lt_z (pos 0) (pos n) ≡ t → (pos_part (cond t (neg_ℤ (pos n)) (pos n)) ≡ 0) × (neg_part (cond t (neg_ℤ (pos n)) (pos n)) ≡ n)
    go true q = (negℤ_pos_part (pos n), negℤ_neg_part (pos n))
    go false q = (omega (arith, lt_z_false (pos 0) (pos n) q), omega (arith, lt_z_false (pos 0) (pos n) q))
lowered_parts (negsuc n) = (refl, refl)

pub lowered_within : {k : ℕ} {x : ℤ} → Within k x → Within k (lowered_of x)
lowered_within {k} {x} h = record { size = omega (arith, abs_parts (lowered_of x), (lowered_parts x).0, (lowered_parts x).1, h.size) }

-- -(|x| + |y|)
sum_parts : (x y : ℤ) → (pos_part (lowered_of x +ℤ lowered_of y) ≡ 0) × (neg_part (lowered_of x +ℤ lowered_of y) ≡ nat_abs x + nat_abs y)
sum_parts x y = by (lowered_of x +ℤ lowered_of y) (omega (arith, +ℤ_parts (lowered_of x) (lowered_of y), (lowered_parts x).0, (lowered_parts x).1, (lowered_parts y).0, (lowered_parts y).1))
  where
    by : (z : ℤ) → pos_part z + (nat_abs x + nat_abs y) ≡ neg_part z → (pos_part z ≡ 0) × (neg_part z ≡ nat_abs x + nat_abs y)
    by (pos n) e = (omega arith, omega arith)
    by (negsuc n) e = (refl, omega arith)

pub covers_more : (x y : List ℤ) (from n : ℕ) (low : ℤ) → Covers x y from n low → Within 25600000 (x at (from + n)) → Within 25600000 (y at (from + n)) → Covers x y from (n + 1) (lower_of low (x at (from + n)) (y at (from + n)))
covers_more x y from n low h v w = go (lt_z z low) refl
  where
    z : ℤ
    z = lowered_of (x at (from + n)) +ℤ lowered_of (y at (from + n))

    none : pos_part z ≡ 0
    none = (sum_parts (x at (from + n)) (y at (from + n))).0

    both : nat_abs z ≡ nat_abs (x at (from + n)) + nat_abs (y at (from + n))
    both = omega (arith, abs_parts z, none, (sum_parts (x at (from + n)) (y at (from + n))).1)

    go : (t : Bool) → lt_z z low ≡ t → Covers x y from (n + 1) (cond t z low)
    go true q =
        record {
          sign = le_le_z z (pos 0) (omega (arith, none));
          size = record { size = omega (arith, both, v.size, w.size) };
          each = next (λ i. nat_abs (x at (from + i)) + nat_abs (y at (from + i)) ≤ nat_abs z) n
              (λ i l. omega (arith, h.each i l, lt_z_true z low q, none_positive low h.sign, none, abs_parts z, abs_parts low)) (omega (arith, both));
        }
    go false q =
        record {
          sign = h.sign;
          size = h.size;
          each = next (λ i. nat_abs (x at (from + i)) + nat_abs (y at (from + i)) ≤ nat_abs low) n h.each
              (omega (arith, both, lt_z_false z low q, none_positive low h.sign, none, abs_parts z, abs_parts low));
        }
