-- Lists whose components are in range, and the scan that tests them. Assumes nothing.
use mathlib.Core.Path.{◌≡◌, refl, sym, ◌∙◌}
use mathlib.Core.Bool.{Bool, true, false, ◌||◌, not, and-true, or-false}
use mathlib.Core.List.{List, [], ◌∷◌, ◌++◌}
use Prim.Native.Nat.{ℕ, zero, suc, ◌+◌, ◌≤◌, ◌<◌}
use native.Mathlib.Numerals.{add-one}
use native.Mathlib.Omega.{arith}
use borrow.Author.Tests.{leb-true, not-false}
use lib.Dec.{leb, lit≤}
use lib.IntN.{ℤ, pos, negsuc, neg_ℤ}
use lib.ListN.{length, get_or, drop, drop_of_length-le}
use lib.Seq.{drop-cons}
use Rattle.complex.specs.Buffers.{listed}
use Rattle.complex.specs.Fits.{Within, Bound}
use Rattle.complex.proofs.Integers.{abs_parts}
use Rattle.complex.proofs.Order.{le_le_z}
use Rattle.codes.proofs.Tests.{neither}
use Rattle.analyser_parts.specs.Components.{component_limit, in_range, outside}

in_range_within : (x : ℤ) → in_range x ≡ true → Within component_limit x
in_range_within (pos n) e = record { size = leb-true n 100000 e }
in_range_within (negsuc n) e = record { size = omega (arith, leb-true n 99999 (sym (and-true (leb n 99999)) ∙ e)) }

at_most : (l : List ℤ) → outside l ≡ false → (n : ℕ) → Within component_limit (get_or l n (pos 0))
unfolding outside
at_most [] e n = record { size = lit≤ tt }
at_most (x ∷ xs) e zero = in_range_within x (not-false (in_range x) (neither (not (in_range x)) (outside xs) e).0)
at_most (x ∷ xs) e (suc n) = at_most xs (neither (not (in_range x)) (outside xs) e).1 n

-- where no component is outside, each has its size
pub not_outside : (l : List ℤ) → outside l ≡ false → Bound component_limit l
not_outside l e = record { at = at_most l e }

-- ---- the scan: what it found before place i, or what it finds from there on
pub scan_more : (found : Bool) (l : List ℤ) (i : ℕ) → i < length l
    → ((found || not (in_range (get_or l i (pos 0)))) || outside (drop (i + 1) l)) ≡ (found || outside (drop i l))
unfolding outside
scan_more true l i h = refl
scan_more false l i h = sym (rw (add-one i, drop-cons l i (pos 0) h))

pub scan_end : (found : Bool) (l : List ℤ) (i : ℕ) → length l ≤ i → (found || outside (drop i l)) ≡ found
unfolding outside
scan_end found l i h = rw (drop_of_length-le l {i = i} h) (or-false found)

-- ---- components that are small enough are not refused
within_range : {x : ℤ} → Within component_limit x → in_range x ≡ true
within_range {x} h = simp (le_le_z (neg_ℤ (pos component_limit)) x (omega (arith, abs_parts x, h.size)), le_le_z x (pos component_limit) (omega (arith, abs_parts x, h.size)))

outside-++ : (xs ys : List ℤ) → outside xs ≡ false → outside ys ≡ false → outside (xs ++ ys) ≡ false
unfolding outside
outside-++ [] ys e f = f
outside-++ (x ∷ xs) ys e f = go (not (in_range x)) e (outside-++ xs ys)
  where
    go : (c : Bool) → (c || outside xs) ≡ false → (outside xs ≡ false → outside ys ≡ false → outside (xs ++ ys) ≡ false) → (c || outside (xs ++ ys)) ≡ false
    go true e r = e
    go false e r = r e f

pub none_outside : (n : ℕ) (f : ℕ → ℤ) → ((k : ℕ) → k < n → Within component_limit (f k)) → outside (listed n f) ≡ false
unfolding listed outside
none_outside zero f h = refl
none_outside (suc n) f h =
    outside-++ (listed n f) (f n ∷ []) (none_outside n f (λ k l. h k (omega arith))) (rw (within_range (h n (omega arith))))
