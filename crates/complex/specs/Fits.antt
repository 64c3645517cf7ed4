-- Sizes: how large a number is at most, and what a 32-bit component can hold.
use Rattle.std.specs.Int.{w32}
use Rattle.std.proofs.Common.{SFits}
use Rattle.std.specs.Prelude.{ℕ, ◌≤◌, ℤ, pos, nat_abs, ◌+ℤ◌, ◌-ℤ◌, ◌*ℤ◌, get_or, List}
use Rattle.complex.specs.declared.Complex.{Complex}

-- z is at most k in size: a record, so that k and z are inferred from it
pub record Within (k : ℕ) (z : ℤ) : Type 0 where
  pub size : nat_abs z ≤ k

-- every entry of the list is at most k in size
pub record Bound (k : ℕ) (l : List ℤ) : Type 0 where
  pub at : (n : ℕ) → Within k (get_or l n (pos 0))

-- both components of x are at most k in size
pub record Both (k : ℕ) (x : Complex) : Type 0 where
  pub re : Within k x.re
  pub im : Within k x.im

-- both components of x are 32-bit numbers
pub record Fits32 (x : Complex) : Type 0 where
  pub re : SFits w32 x.re
  pub im : SFits w32 x.im

-- the products and sums of which x ⊗ y is made are 32-bit numbers
pub record ProductFits32 (x y : Complex) : Type 0 where
  pub re_re : SFits w32 (x.re *ℤ y.re)
  pub im_im : SFits w32 (x.im *ℤ y.im)
  pub re_im : SFits w32 (x.re *ℤ y.im)
  pub im_re : SFits w32 (x.im *ℤ y.re)
  pub re : SFits w32 (x.re *ℤ y.re -ℤ x.im *ℤ y.im)
  pub im : SFits w32 (x.re *ℤ y.im +ℤ x.im *ℤ y.re)
