-- Sizes of the entries of lists. Assumes nothing.
use mathlib.Core.Path.{sym, subst}
use mathlib.Core.List.{List}
use Prim.Native.Nat.{ℕ, ◌≤◌}
use native.Mathlib.Decide.{dec_le}
use native.Mathlib.Nat.{lt_of_not-le}
use native.Mathlib.Omega.{arith}
use lib.IntN.{ℤ, pos}
use lib.ListN.{get_or, replicate, get_or-eq_default}
use Rattle.complex.specs.Buffers.{listed, value}
use Rattle.complex.specs.Fits.{Within, Both, Bound}
use Rattle.complex.proofs.Sizes.{within_more}
use Rattle.complex.proofs.Lists.{length_listed, listed_at}

pub bound_more : {k : ℕ} {l : List ℤ} → Bound k l → (m : ℕ) → k ≤ m → Bound m l
bound_more h m g = record { at = λ n. within_more (h.at n) m g }

pub bound_listed : (k n : ℕ) (f : ℕ → ℤ) → ((i : ℕ) → Within k (f i)) → Bound k (listed n f)
bound_listed k n f h = record { at = λ i. go i (dec_le n i) }
  where
    go : (i : ℕ) → Dec (n ≤ i) → Within k (get_or (listed n f) i (pos 0))
    go i (yes l) =
        subst (Within k) (sym (get_or-eq_default (listed n f) (pos 0) {n = i} (omega (arith, length_listed f n))))
        (record { size = omega arith })
    go i (no l) = subst (Within k) (sym (listed_at f (pos 0) n i (lt_of_not-le l))) (h i)

-- an array before its loop
pub bound_zeros : (k : ℕ) → Bound k (replicate 16 (pos 0))
unfolding listed
bound_zeros k = bound_listed k 16 (λ i. pos 0) (λ i. record { size = omega arith })

-- a value of two lists
pub value_both : {k : ℕ} {re im : List ℤ} → Bound k re → Bound k im → (n : ℕ) → Both k (value re im n)
value_both f g n = record { re = f.at n; im = g.at n }
