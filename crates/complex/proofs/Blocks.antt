-- Two arrays of sixteen that a loop writes side by side, and the block made of them. Assumes nothing.
use mathlib.Core.Path.{◌≡◌, refl, ap, ◌∙◌}
use mathlib.Core.List.{List}
use Prim.Native.Nat.{ℕ, ◌+◌, ◌≤◌, ◌<◌}
use native.Mathlib.Omega.{arith}
use lib.IntN.{ℤ, pos}
use lib.ListN.{set, replicate}
use mir.Syntax.{w32}
use mir.Val.{SFits, to_z, of_z}
use mir.Facts.{to_z-of_z}
use Rattle.complex.specs.declared.Complex.{Complex}
use Rattle.complex.specs.Buffers.{block_of, listed, written}
use Rattle.complex.specs.Fits.{Bound, Both, Fits32}
use Rattle.complex.proofs.Lists.{one_more_written, listed_cong}
use Rattle.complex.proofs.Bounds.{bound_listed}
use Rattle.complex.specs.declared.Block.{Block}

abbrev zeros : List ℤ
zeros = replicate 16 (pos 0)

-- the first i entries are f's: the invariant of a loop that writes one array
pub record Row (f : ℕ → ℤ) (y : List ℤ) (i : ℕ) : Type 0 where
  pub below : i ≤ 16
  pub entries : y ≡ written (listed i f) zeros

pub row_none : {f : ℕ → ℤ} → Row f zeros 0
unfolding listed
row_none = record { below = omega arith; entries = refl }

module _ {f : ℕ → ℤ} {y : List ℤ} {i : ℕ} (h : Row f y i) where
  -- a turn of the loop: z is held in a local on its way
  pub row_more : i < 16 → {z : ℤ} → SFits w32 z → z ≡ f i → Row f (set y i (to_z w32 (of_z w32 z))) (i + 1)
  row_more l g e = record { below = omega arith; entries = (λ j. set (h.entries j) i ((to_z-of_z g ∙ e) j)) ∙ one_more_written f zeros i (omega arith) }

  pub row_all : 16 ≤ i → y ≡ listed 16 f
  unfolding listed
  row_all l = let e : i ≡ 16 = omega arith in rw e at h.entries

-- and of a loop that writes two
pub record Filled (f : ℕ → Complex) (re im : List ℤ) (i : ℕ) : Type 0 where
  pub res : Row (λ k. (f k).re) re i
  pub ims : Row (λ k. (f k).im) im i

pub filled_none : {f : ℕ → Complex} → Filled f zeros zeros 0
filled_none = record { res = row_none; ims = row_none }

module _ {f : ℕ → Complex} {re im : List ℤ} {i : ℕ} (h : Filled f re im i) where
  pub filled_more : i < 16 → (z : Complex) → Fits32 z → z ≡ f i
      → Filled f (set re i (to_z w32 (of_z w32 z.re))) (set im i (to_z w32 (of_z w32 z.im))) (i + 1)
  filled_more l z g e = record { res = row_more h.res l g.re (ap (λ (x : Complex). x.re) e); ims = row_more h.ims l g.im (ap (λ (x : Complex). x.im) e) }

  pub filled_all : 16 ≤ i → ◌≡◌ {A = Block} (record { re = re; im = im }) (block_of f)
  filled_all l = λ j. record { re = row_all h.res l j; im = row_all h.ims l j }

-- equal entries, equal blocks
pub block_cong : (f g : ℕ → Complex) → ((i : ℕ) → i < 16 → f i ≡ g i) → block_of f ≡ block_of g
block_cong f g h =
    let re = listed_cong 16 (λ i. (f i).re) (λ i. (g i).re) (λ i l. ap (λ (x : Complex). x.re) (h i l)) in
    let im = listed_cong 16 (λ i. (f i).im) (λ i. (g i).im) (λ i l. ap (λ (x : Complex). x.im) (h i l)) in
    λ j. record { re = re j; im = im j }

-- the size of a block's entries
pub block_bound : {k : ℕ} {r : Block} (f : ℕ → Complex) → r ≡ block_of f → ((i : ℕ) → Both k (f i)) → Bound k r.re × Bound k r.im
block_bound {k} f e h = rw e (bound_listed k 16 (λ i. (f i).re) (λ i. (h i).re), bound_listed k 16 (λ i. (f i).im) (λ i. (h i).im))
