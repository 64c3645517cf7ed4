-- A rule over finitely many cases is one test that antt computes, and one law that turns it into the rule at each case. Assumes nothing.
use mathlib.Core.Path.{◌≡◌, refl, sym, ap, subst}
use mathlib.Core.Bool.{Bool, true, false, ◌&&◌, ◌||◌, cond, not, true≢false}
use mathlib.Core.List.{List, [], ◌∷◌}
use Prim.Native.Nat.{ℕ, zero, suc, ◌<◌}
use native.Mathlib.Nat.{not-suc-le-zero}
use native.Mathlib.Decide.{ℕ_discrete}
use native.Mathlib.Omega.{arith}
use borrow.Author.Tests.{ne_eqb}
use lib.Dec.{T, eqb, eqb→eq, ltb, ltb→lt}
use mir.Facts.{and_yes}
use lib.IntN.{ℤ, pos, negsuc}
use Rattle.codes.specs.Range.{each, any}
use Rattle.codes.specs.Tree.{among}

both_left : (s t : Bool) → T (cond s t false) → T s
both_left true t h = tt
both_left false t h = h

both_right : (s t : Bool) → T (cond s t false) → T t
both_right true t h = h
both_right false t h = absurd h

pub each_at : (n : ℕ) (f : ℕ → Bool) → T (each n f) → (k : ℕ) → k < n → T (f k)
unfolding each
each_at zero f t k l = absurd (not-suc-le-zero l)
each_at (suc n) f t k l = pick (ℕ_discrete n k) (λ m. each_at n f (both_right (f n) (each n f) t) k m)
  where
    pick : Dec (n ≡ k) → (k < n → T (f k)) → T (f k)
    pick (yes e) r = subst (λ (m : ℕ). T (f m)) e (both_left (f n) (each n f) t)
    pick (no e) r = r (omega arith)

pub each_all : (n : ℕ) (f : ℕ → Bool) → ((k : ℕ) → k < n → f k ≡ true) → each n f ≡ true
unfolding each
each_all zero f h = refl
each_all (suc n) f h = rw (h n (omega arith)) (each_all n f (λ k l. h k (omega arith)))

pub each_not : (n : ℕ) (f : ℕ → Bool) (k : ℕ) → k < n → f k ≡ false → each n f ≡ false
each_not n f k l e = go (each n f) refl
  where
    go : (b : Bool) → each n f ≡ b → each n f ≡ false
    go true q = absurd (subst T e (each_at n f (subst T (sym q) tt) k l))
    go false q = q

-- two tests agree
unfoldable pub agree : Bool → Bool → Bool
agree true b = b
agree false b = not b

pub agree→eq : (s t : Bool) → T (agree s t) → s ≡ t
unfolding agree
agree→eq true true u = refl
agree→eq true false u = absurd u
agree→eq false true u = absurd u
agree→eq false false u = refl

-- two whole numbers are equal
unfoldable pub same : ℤ → ℤ → Bool
same (pos m) (pos n) = eqb m n
same (negsuc m) (negsuc n) = eqb m n
same (pos m) (negsuc n) = false
same (negsuc m) (pos n) = false

pub same→eq : (x y : ℤ) → T (same x y) → x ≡ y
unfolding same
same→eq (pos m) (pos n) t = ap pos (eqb→eq m n t)
same→eq (negsuc m) (negsuc n) t = ap negsuc (eqb→eq m n t)
same→eq (pos m) (negsuc n) t = absurd t
same→eq (negsuc m) (pos n) t = absurd t

-- ---- a number that is one of a list's
pub T_true : (t : Bool) → T t → t ≡ true
T_true true h = refl
T_true false h = absurd h

-- a number of a list whose numbers are below k is below k
unfoldable pub all_below : ℕ → List ℕ → Bool
all_below k [] = true
all_below k (x ∷ xs) = ltb x k && all_below k xs

pub among_below : (k n : ℕ) (xs : List ℕ) → T (all_below k xs) → T (among n xs) → n < k
unfolding all_below
among_below k n [] t u = absurd u
among_below k n (x ∷ xs) t u = go (ℕ_discrete n x) (among_below k n xs)
  where
    both : T (ltb x k) × T (all_below k xs)
    both = and_yes (ltb x k) (all_below k xs) t

    go : Dec (n ≡ x) → (T (all_below k xs) → T (among n xs) → n < k) → n < k
    go (yes e) r = let h : x < k = ltb→lt x k both.0 in omega arith
    go (no e) r = r both.1 (rw (ne_eqb n x e) at u)

-- neither of two tests holds
pub neither : (s t : Bool) → (s || t) ≡ false → (s ≡ false) × (t ≡ false)
neither true t e = absurd (true≢false e)
neither false t e = (refl, e)

-- a test that passes at no number below n
pub none_at : (n : ℕ) (f : ℕ → Bool) → any n f ≡ false → (k : ℕ) → k < n → f k ≡ false
unfolding any
none_at zero f e k l = absurd (not-suc-le-zero l)
none_at (suc n) f e k l = pick (ℕ_discrete k n) (none_at n f (neither (f n) (any n f) e).1 k)
  where
    pick : Dec (k ≡ n) → (k < n → f k ≡ false) → f k ≡ false
    pick (yes p) r = rw p (neither (f n) (any n f) e).0
    pick (no p) r = r (omega arith)
