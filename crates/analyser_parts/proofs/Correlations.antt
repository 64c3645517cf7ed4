-- A correlation with a sync code is made of sums of sixteen: the law that joins the code to the definition. Assumes nothing.
use mathlib.Core.Path.{◌≡◌, sym, ap, ap₂, ◌∙◌, subst}
use mathlib.Core.List.{List}
use Prim.Native.Nat.{ℕ, ◌+◌, ◌*◌, ◌<◌}
use native.Mathlib.Nat.{zero-add}
use native.Mathlib.Omega.{arith}
use lib.Dec.{T}
use lib.IntN.{ℤ, pos, neg_ℤ, ◌+ℤ◌, ◌-ℤ◌, ◌*ℤ◌}
use lib.ListN.{get_or}
use Rattle.complex.specs.declared.Complex.{Complex}
use Rattle.complex.specs.Arithmetic.{◌+j◌, real, ◌⊗◌, conj, Σ<, Σℤ<}
use Rattle.complex.specs.Buffers.{value, listed, ◌at◌}
use Rattle.complex.specs.Fits.{Both}
use Rattle.complex.proofs.Integers.{ring, *ℤ_swap}
use Rattle.complex.proofs.Ring.{by_components, products, ⊗-comm, conj-⊗, conj_real, real_*ℤ, real-⊗}
use Rattle.complex.proofs.Sizes.{within_add, within_sub}
use Rattle.complex.proofs.Sums.{Σ_cong, ⊗-Σ, Σ_blocks, Σℤ_cong, Σ_components}
use Rattle.complex.proofs.Lists.{listed_at}
use Rattle.codes.specs.PackedSigns.{packed, sign_bit, secondary_row}
use Rattle.codes.specs.SyncCodes.{a, a_signs, b, b_signs, Cp, C, hadamard_part, is_sync_code}
use Rattle.codes.proofs.Rows.{read_back, a_test, a_signs_test, b_test}
use Rattle.codes.proofs.Parts.{Cp_parts, C_parts, secondary_signs, sync_code_below}
use Rattle.analyser_parts.specs.Correlation.{correlation, P, S}
use Rattle.analyser_parts.specs.PartSums.{correlated, part_sums, primary_sum, signed_sum}

pub times_one_minus_j : (z : Complex) → z ⊗ conj (pos 1 +j pos 1) ≡ (z.re +ℤ z.im) +j (z.im -ℤ z.re)
unfolding ◌⊗◌ conj
times_one_minus_j z = by_components (by z.re z.im) (by' z.re z.im)
  where
    by : (a b : ℤ) → a *ℤ pos 1 -ℤ b *ℤ neg_ℤ (pos 1) ≡ a +ℤ b
    by a b = simp ring

    by' : (a b : ℤ) → a *ℤ neg_ℤ (pos 1) +ℤ b *ℤ pos 1 ≡ b -ℤ a
    by' a b = simp ring

pub one_minus_j_within : {k : ℕ} {z : Complex} → Both k z → Both (k + k) (z ⊗ conj (pos 1 +j pos 1))
one_minus_j_within {k} {z} h =
    subst (Both (k + k)) (sym (times_one_minus_j z)) (record { re = within_add h.re h.im; im = within_sub h.im h.re })

-- ---- a code is sixteen parts of sixteen chips: the parts have the signs of one row, the chips of a part those of another
-- sixteen sums of sixteen
stages : List ℤ → ℕ → ℕ → ℕ → ℤ
stages x start row signs = Σℤ< 16 (λ m. sign_bit signs m *ℤ signed_sum x (start + m * 16) row)

-- they are what a signed sum makes of a list of signed sums
staged : (f : ℕ → ℤ) (signs : ℕ) → signed_sum (listed 16 f) 0 signs ≡ Σℤ< 16 (λ m. sign_bit signs m *ℤ f m)
unfolding signed_sum
staged f signs =
    Σℤ_cong 16 (λ m. sign_bit signs m *ℤ get_or (listed 16 f) (0 + m) (pos 0)) (λ m. sign_bit signs m *ℤ f m)
    (λ m l. ap (λ (t : ℤ). sign_bit signs m *ℤ t) (ap (λ (k : ℕ). get_or (listed 16 f) k (pos 0)) (zero-add m) ∙ listed_at f (pos 0) 16 m l))

module _ (re im : List ℤ) (start : ℕ) where
  -- one part
  part_is : (m row : ℕ) → Σ< 16 (λ i. real (sign_bit row i) ⊗ value re im (start + (m * 16 + i))) ≡ signed_sum re (start + m * 16) row +j signed_sum im (start + m * 16) row
  unfolding signed_sum
  part_is m row =
      Σ_cong 16 _ (λ i. sign_bit row i *ℤ get_or re (start + m * 16 + i) (pos 0) +j sign_bit row i *ℤ get_or im (start + m * 16 + i) (pos 0))
      (λ i l. ap (λ (n : ℕ). real (sign_bit row i) ⊗ value re im n) (place i) ∙ real-⊗ (sign_bit row i) (value re im (start + m * 16 + i)))
      ∙ Σ_components 16 (λ i. sign_bit row i *ℤ get_or re (start + m * 16 + i) (pos 0)) (λ i. sign_bit row i *ℤ get_or im (start + m * 16 + i) (pos 0))
    where
      place : (i : ℕ) → start + (m * 16 + i) ≡ start + m * 16 + i
      place i = omega arith

  module _ (code : ℕ → Complex) (row signs : ℕ)
      (parts : (m i : ℕ) → m < 16 → i < 16 → code (m * 16 + i) ≡ real (sign_bit signs m *ℤ sign_bit row i) ⊗ (pos 1 +j pos 1)) where
    abbrev one_minus_j : Complex
    one_minus_j = conj (pos 1 +j pos 1)

    -- a chip's term, its factors sorted
    term : (m i : ℕ) → m < 16 → i < 16
        → value re im (start + (m * 16 + i)) ⊗ conj (code (m * 16 + i)) ≡ one_minus_j ⊗ (real (sign_bit signs m) ⊗ (real (sign_bit row i) ⊗ value re im (start + (m * 16 + i))))
    term m i h g =
        ap (λ (t : Complex). value re im (start + (m * 16 + i)) ⊗ conj t) (parts m i h g ∙ ap (λ (t : Complex). t ⊗ (pos 1 +j pos 1)) (real_*ℤ (sign_bit signs m) (sign_bit row i)))
        ∙ sorted (value re im (start + (m * 16 + i))) (sign_bit signs m) (sign_bit row i) (pos 1 +j pos 1)
      where
        sorted : (x : Complex) (s r : ℤ) (u : Complex) → x ⊗ conj ((real s ⊗ real r) ⊗ u) ≡ conj u ⊗ (real s ⊗ (real r ⊗ x))
        sorted x s r u = simp (conj-⊗, conj_real) (simp products)

    by_stages : Σ< 256 (λ n. value re im (start + n) ⊗ conj (code n)) ≡ (stages re start row signs +j stages im start row signs) ⊗ one_minus_j
    unfolding stages
    by_stages =
        Σ_blocks 16 16 (λ n. value re im (start + n) ⊗ conj (code n))
        ∙ Σ_cong 16 _ (λ m. one_minus_j ⊗ whole m)
        (λ m h.
        Σ_cong 16 _ (λ i. one_minus_j ⊗ (real (sign_bit signs m) ⊗ chip m i)) (λ i g. term m i h g)
        ∙ sym (⊗-Σ 16 (λ i. real (sign_bit signs m) ⊗ chip m i) one_minus_j)
        ∙ ap (λ (t : Complex). one_minus_j ⊗ t)
        (sym (⊗-Σ 16 (chip m) (real (sign_bit signs m))) ∙ ap (λ (t : Complex). real (sign_bit signs m) ⊗ t) (part_is m row)
        ∙ real-⊗ (sign_bit signs m) (signed_sum re (start + m * 16) row +j signed_sum im (start + m * 16) row)))
        ∙ sym (⊗-Σ 16 whole one_minus_j)
        ∙ ⊗-comm one_minus_j (Σ< 16 whole)
        ∙ ap (λ (t : Complex). t ⊗ one_minus_j)
        (Σ_components 16 (λ m. sign_bit signs m *ℤ signed_sum re (start + m * 16) row) (λ m. sign_bit signs m *ℤ signed_sum im (start + m * 16) row))
      where
        chip : ℕ → ℕ → Complex
        chip m i = real (sign_bit row i) ⊗ value re im (start + (m * 16 + i))

        whole : ℕ → Complex
        whole m = sign_bit signs m *ℤ signed_sum re (start + m * 16) row +j sign_bit signs m *ℤ signed_sum im (start + m * 16) row

-- ---- the sync codes
primary_parts : (m i : ℕ) → m < 16 → i < 16 → Cp (m * 16 + i) ≡ real (sign_bit (packed a_signs) m *ℤ sign_bit (packed a) i) ⊗ (pos 1 +j pos 1)
primary_parts m i h g = rw (read_back a_signs a_signs_test m, read_back a a_test i) (Cp_parts m i g)

secondary_parts : (k : ℕ) → T (is_sync_code k) → (m i : ℕ) → m < 16 → i < 16
    → C k (m * 16 + i) ≡ real (sign_bit (secondary_row k) m *ℤ sign_bit (packed b) i) ⊗ (pos 1 +j pos 1)
secondary_parts k t m i h g =
    C_parts m i g k t
    ∙ ap (λ (x : ℤ). real x ⊗ (pos 1 +j pos 1)) (*ℤ_swap (b_signs at m) (b at i) (hadamard_part k m))
    ∙ rw (secondary_signs k m (sync_code_below k t) h, read_back b b_test i)

-- what the code makes of 256 chips is the correlation with a code of such parts
correlation_is : (re im : List ℤ) (code : ℕ → Complex) (row signs : ℕ)
    → ((m i : ℕ) → m < 16 → i < 16 → code (m * 16 + i) ≡ real (sign_bit signs m *ℤ sign_bit row i) ⊗ (pos 1 +j pos 1))
    → correlated (part_sums re row) (part_sums im row) signs ≡ correlation (value re im) code
unfolding correlated correlation stages
correlation_is re im code row signs parts =
    ap₂ (λ (x y : ℤ). (x +j y) ⊗ conj (pos 1 +j pos 1)) (stages_of re) (stages_of im)
    ∙ sym (by_stages re im 0 code row signs parts)
    ∙ Σ_cong 256 _ (λ n. value re im n ⊗ conj (code n)) (λ n l. ap (λ (k : ℕ). value re im k ⊗ conj (code n)) (zero-add n))
  where
    stages_of : (x : List ℤ) → signed_sum (part_sums x row) 0 signs ≡ Σℤ< 16 (λ m. sign_bit signs m *ℤ signed_sum x (0 + m * 16) row)
    stages_of x =
        staged (λ m. signed_sum x (m * 16) row) signs
        ∙ Σℤ_cong 16 _ (λ m. sign_bit signs m *ℤ signed_sum x (0 + m * 16) row) (λ m l. ap (λ (n : ℕ). sign_bit signs m *ℤ signed_sum x n row) (sym (zero-add (m * 16))))

pub primary_is : (re im : List ℤ) → correlated (part_sums re (packed a)) (part_sums im (packed a)) (packed a_signs) ≡ P (value re im)
primary_is re im = correlation_is re im Cp (packed a) (packed a_signs) primary_parts

pub secondary_is : (re im : List ℤ) (k : ℕ) → T (is_sync_code k) → correlated (part_sums re (packed b)) (part_sums im (packed b)) (secondary_row k) ≡ S (value re im) k
secondary_is re im k t = correlation_is re im (C k) (packed b) (secondary_row k) (secondary_parts k t)

-- what it makes of the sums from a start on is P from there
pub primary_from : (re im : List ℤ) (start : ℕ) → (primary_sum re start +j primary_sum im start) ⊗ conj (pos 1 +j pos 1) ≡ P (λ n. value re im (start + n))
unfolding primary_sum correlation stages
primary_from re im start = sym (by_stages re im start Cp (packed a) (packed a_signs) primary_parts)
