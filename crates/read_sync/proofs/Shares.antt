-- What the codes of an allocation add to a score is the share of the definition, and how large it can be. Assumes nothing.
use mathlib.Core.Path.{◌≡◌, ap, ◌∙◌}
use mathlib.Core.List.{List}
use Prim.Native.Nat.{ℕ}
use mathlib.Core.Bool.{Bool, true, false, cond}
use lib.Dec.{T, lit≤}
use lib.IntN.{ℤ, ◌+ℤ◌}
use Rattle.complex.specs.declared.Complex.{Complex}
use Rattle.complex.specs.Arithmetic.{𝟎, ◌⊗◌, conj}
use Rattle.complex.specs.Buffers.{value, listed}
use Rattle.complex.specs.Fits.{Both, Bound}
use Rattle.complex.proofs.Ring.{⊗-swap}
use Rattle.complex.proofs.Components.{both_conj, both-⊗}
use Rattle.complex.proofs.Lists.{value_in_buffers}
use Rattle.complex.proofs.Bounds.{bound_listed}
use Rattle.codes.specs.PackedSigns.{packed, secondary_row}
use Rattle.codes.specs.declared.ModulatedCode.{ModulatedCode}
use Rattle.codes.specs.SyncCodes.{b, is_sync_code}
use Rattle.codes.proofs.Tests.{T_true}
use Rattle.codes.proofs.Parts.{sync_code_below}
use Rattle.codes.proofs.Allocations.{Known, allocation_known}
use Rattle.analyser_parts.specs.Correlation.{P, S}
use Rattle.analyser_parts.specs.PartSums.{correlated, part_sums}
use Rattle.analyser_parts.proofs.Bounds.{signed_sum_within}
use Rattle.analyser_parts.proofs.Correlations.{one_minus_j_within, secondary_is}
use Rattle.read_sync.specs.SyncReading.{candidate, score, candidate_codes, share}
use Rattle.read_sync.specs.Shares.{product, share_of, shares_of}

-- ---- from the products that the code holds to the scores of the definition
module _ (re im dre dim : List ℤ)
    (dre-is : dre ≡ listed 16 (λ i. (product (part_sums re (packed b)) (part_sums im (packed b)) (P (value re im)) i).re))
    (dim-is : dim ≡ listed 16 (λ i. (product (part_sums re (packed b)) (part_sums im (packed b)) (P (value re im)) i).im)) where
  abbrev chip : ℕ → Complex
  chip = value re im

  product_is : (i : ℕ) → T (is_sync_code i) → value dre dim i ≡ S chip i ⊗ conj (P chip)
  unfolding product
  product_is i t =
      (λ k. value (dre-is k) (dim-is k) i)
      ∙ value_in_buffers 16 (product (part_sums re (packed b)) (part_sums im (packed b)) (P chip)) i (sync_code_below i t)
      ∙ rw (T_true (is_sync_code i) t) (ap (λ (x : Complex). x ⊗ conj (P chip)) (secondary_is re im i t))

  share_is : {m : ModulatedCode} → Known m → share_of (value dre dim) m ≡ share chip m
  unfolding share_of share
  share_is {m} g =
      ap (λ (x : Complex). x.re)
      (ap (λ (x : Complex). x ⊗ conj m.unit) (product_is m.code g.listed) ∙ ⊗-swap (S chip m.code) (conj (P chip)) (conj m.unit))

  pub scores_are : (case n : ℕ) → shares_of (value dre dim) (candidate_codes case (candidate case n)) ≡ score case chip n
  unfolding score
  scores_are case n =
      let c = candidate case n in
      let k = allocation_known case c.group.0 c.frame c.half in
      λ i. share_is k.first i +ℤ share_is k.second i +ℤ share_is k.marker i

-- ---- sizes of what the code holds
pub parts_bound : {x : List ℤ} → Bound 100000 x → (row : ℕ) → Bound 1600000 (part_sums x row)
parts_bound h row = bound_listed 1600000 16 _ (λ m. signed_sum_within h _ _)

pub correlated_within : {re im : List ℤ} → Bound 1600000 re → Bound 1600000 im → (signs : ℕ) → Both 51200000 (correlated re im signs)
unfolding correlated
correlated_within h g signs = one_minus_j_within (record { re = signed_sum_within h _ _; im = signed_sum_within g _ _ })

pub product_within : {re im : List ℤ} {p : Complex} → Bound 1600000 re → Bound 1600000 im → Both 51200000 p → (i : ℕ) → Both 5242880000000000 (product re im p i)
unfolding product 𝟎
product_within {re} {im} {p} h g k i = go (is_sync_code i)
  where
    go : (b : Bool) → Both 5242880000000000 (cond b (correlated re im (secondary_row i) ⊗ conj p) 𝟎)
    go true = both-⊗ (correlated_within h g (secondary_row i)) (both_conj k)
    go false = record { re = record { size = lit≤ tt }; im = record { size = lit≤ tt } }
