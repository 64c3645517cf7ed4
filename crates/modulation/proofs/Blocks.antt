-- The size of a symbol. Assumes nothing.
use mathlib.Core.Path.{◌≡◌}
use mathlib.Core.Bool.{Bool, true, false}
use mathlib.Core.List.{List}
use Prim.Native.Nat.{ℕ, zero, suc}
use lib.IntN.{ℤ, nat_abs}
use lib.Dec.{T, leb, leb→le}
use Rattle.complex.specs.declared.Complex.{Complex}
use Rattle.complex.specs.Arithmetic.{𝟎, 𝟏, 𝐣}
use Rattle.complex.specs.Buffers.{listed}
use Rattle.complex.specs.Fits.{Within, Bound, Both}
use Rattle.complex.proofs.Bounds.{bound_listed}
use Rattle.modulation.specs.Symbols.{symbol}
use Rattle.modulation.specs.SixteenChips.{component}

-- a test that computes
unit : {x : Complex} → T (leb (nat_abs x.re) 1) → T (leb (nat_abs x.im) 1) → Both 1 x
unit a b = record { re = record { size = leb→le _ _ a }; im = record { size = leb→le _ _ b } }

pub symbol_both : (n : ℕ) → Both 1 (symbol n)
unfolding symbol 𝟎 𝟏 𝐣
symbol_both zero = unit tt tt
symbol_both (suc zero) = unit tt tt
symbol_both (suc (suc zero)) = unit tt tt
symbol_both (suc (suc (suc zero))) = unit tt tt
symbol_both (suc (suc (suc (suc n)))) = unit tt tt

-- and of one component of sixteen symbols
pub symbols_bound : (f : ℕ → ℕ) (b : Bool) {r : List ℤ} → r ≡ listed 16 (λ i. component (symbol (f i)) b) → Bound 1 r
symbols_bound f b e = rw e (bound_listed 1 16 _ (λ i. part b (symbol_both (f i))))
  where
    part : (b : Bool) {z : Complex} → Both 1 z → Within 1 (component z b)
    part true h = h.re
    part false h = h.im
