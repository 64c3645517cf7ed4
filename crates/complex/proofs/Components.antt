-- The size of a complex value: both components are at most k in size. Assumes nothing.
use mathlib.Core.Path.{sym, subst}
use Prim.Native.Nat.{ℕ, zero, suc, ◌+◌, ◌*◌, ◌≤◌, ◌<◌, ◌^◌}
use native.Mathlib.Nat.{le_refl}
use native.Mathlib.Omega.{arith}
use lib.Dec.{T, ltb, lit≤}
use lib.IntN.{ℤ, pos}
use mir.Syntax.{w32}
use mir.Val.{hbits}
use Rattle.complex.specs.declared.Complex.{Complex}
use Rattle.complex.specs.Arithmetic.{real, 𝟎, 𝐣, ◌⊕◌, ◌⊗◌, conj, j^, Σ<, Σℤ<}
use Rattle.complex.specs.Fits.{Within, Both, Fits32, ProductFits32}
use Rattle.complex.proofs.Sizes.{within_neg, within_more, within_add, within_sub, within_mul, fits_within}
use Rattle.complex.proofs.Ring.{𝟏-⊗, ⊗-assoc, real-⊗}
use Rattle.complex.proofs.Rotations.{𝐣-⊗}

pub real_both : {k : ℕ} {s : ℤ} → Within k s → Both k (real s)
unfolding real
real_both h = record { re = h; im = record { size = omega arith } }

module _ {k : ℕ} {x : Complex} (h : Both k x) where
  pub both_more : (l : ℕ) → k ≤ l → Both l x
  both_more l g = record { re = within_more h.re l g; im = within_more h.im l g }

  pub both_conj : Both k (conj x)
  unfolding conj
  both_conj = record { re = h.re; im = within_neg h.im }

  -- at a bound that computes: `both_fits h tt`
  pub both_fits : T (ltb k (2 ^ hbits w32)) → Fits32 x
  both_fits t = record { re = fits_within h.re t; im = fits_within h.im t }

  module _ {l : ℕ} {y : Complex} (g : Both l y) where
    pub both-⊕ : Both (k + l) (x ⊕ y)
    unfolding ◌⊕◌
    both-⊕ = record { re = within_add h.re g.re; im = within_add h.im g.im }

    pub both-⊗ : Both (k * l + k * l) (x ⊗ y)
    unfolding ◌⊗◌
    both-⊗ =
        record {
          re = within_sub (within_mul h.re g.re) (within_mul h.im g.im);
          im = within_add (within_mul h.re g.im) (within_mul h.im g.re);
        }

    pub product_fits : T (ltb (k * l) (2 ^ hbits w32)) → T (ltb (k * l + k * l) (2 ^ hbits w32)) → ProductFits32 x y
    product_fits t u =
        record {
          re_re = fits_within (within_mul h.re g.re) t;
          im_im = fits_within (within_mul h.im g.im) t;
          re_im = fits_within (within_mul h.re g.im) t;
          im_re = fits_within (within_mul h.im g.re) t;
          re = fits_within (within_sub (within_mul h.re g.re) (within_mul h.im g.im)) u;
          im = fits_within (within_add (within_mul h.re g.im) (within_mul h.im g.re)) u;
        }

-- ---- factors that add nothing to a size: a power of j, and 1, -1 or 0
module _ {k : ℕ} {x : Complex} (h : Both k x) where
  pub both_j^ : (n : ℕ) → Both k (j^ n ⊗ x)
  unfolding j^
  both_j^ zero = subst (Both k) (sym (𝟏-⊗ x)) h
  both_j^ (suc n) =
      let r = both_j^ n in
      subst (Both k) (sym (⊗-assoc 𝐣 (j^ n) x)) (subst (Both k) (sym (𝐣-⊗ (j^ n ⊗ x))) (record { re = within_neg r.im; im = r.re }))

  pub both_sign : {s : ℤ} → Within 1 s → Both k (real s ⊗ x)
  both_sign {s} g =
      subst (Both k) (sym (real-⊗ s x))
      (record { re = within_more (within_mul g h.re) k (omega arith); im = within_more (within_mul g h.im) k (omega arith) })

-- ---- sums
none : Within 0 (pos 0)
none = record { size = lit≤ tt }

pub both_Σ : (k n : ℕ) (f : ℕ → Complex) → ((i : ℕ) → i < n → Both k (f i)) → Both (n * k) (Σ< n f)
unfolding Σ< 𝟎
both_Σ k zero f h = record { re = within_more none (0 * k) (omega arith); im = within_more none (0 * k) (omega arith) }
both_Σ k (suc n) f h =
    let r = both-⊕ (both_Σ k n f (λ i l. h i (omega arith))) (h n (omega arith)) in
    both_more r (suc n * k) (omega arith)

pub within_Σℤ : (k n : ℕ) (f : ℕ → ℤ) → ((i : ℕ) → i < n → Within k (f i)) → Within (n * k) (Σℤ< n f)
unfolding Σℤ<
within_Σℤ k zero f h = within_more none (0 * k) (omega arith)
within_Σℤ k (suc n) f h = within_more (within_add (within_Σℤ k n f (λ i l. h i (omega arith))) (h n (omega arith))) (suc n * k) (omega arith)

-- a gain times a value
pub gained_within : {k : ℕ} {x : Complex} → Both k x → (g : ℕ) → Both (g * k) (real (pos g) ⊗ x)
gained_within {k} {x} h g =
    subst (Both (g * k)) (sym (real-⊗ (pos g) x)) (record { re = within_mul gain h.re; im = within_mul gain h.im })
  where
    gain : Within g (pos g)
    gain = record { size = le_refl g }
