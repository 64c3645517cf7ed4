-- The sync codes are orthogonal: over the 256 chips a code correlates with itself to 512, and with any other of them to 0. Assumes nothing.
use mathlib.Core.Path.{◌≡◌, refl, sym, ap, ◌∙◌}
use mathlib.Core.Bool.{Bool, true, cond}
use Prim.Native.Nat.{ℕ, zero, suc, ◌+◌, ◌*◌, ◌<◌}
use native.Mathlib.Omega.{arith}
use lib.Count.{ones, ones_in}
use lib.Dec.{T, eqb, lit<}
use lib.IntN.{ℤ, pos, ◌*ℤ◌}
use Rattle.complex.specs.declared.Complex.{Complex}
use Rattle.complex.specs.Arithmetic.{◌+j◌, real, ◌⊗◌, conj, Σ<, Σℤ<}
use Rattle.complex.proofs.Integers.{*ℤ_swap}
use Rattle.complex.proofs.Ring.{products, ⊗-swap, conj-⊗, conj_real, real_*ℤ}
use Rattle.complex.proofs.Sums.{Σ_cong, Σ_blocks, ⊗-Σ, real_Σ}
use Rattle.complex.specs.Buffers.{◌at◌}
use Rattle.codes.specs.Range.{each}
use Rattle.codes.specs.SyncCodes.{a, a_signs, b, b_signs, Cp, C, hadamard, hadamard_part, is_sync_code}
use Rattle.codes.proofs.Tests.{each_at, same, same→eq}
use Rattle.codes.proofs.Parts.{Cp_parts, C_parts, sync_code_below}
use Rattle.analyser_parts.specs.Correlation.{correlation}

-- ---- the thirteen codes by one number: 0 is Cp, 1 + i is Ci
abbrev pub sync_code : ℕ → ℕ → Complex
sync_code zero = Cp
sync_code (suc i) = C i

abbrev pub has_code : ℕ → Bool
has_code zero = true
has_code (suc i) = is_sync_code i

has_code_below : (x : ℕ) → T (has_code x) → x < 17
has_code_below zero t = lit< tt
has_code_below (suc i) t = let h : i < 16 = sync_code_below i t in omega arith

-- a code is sixteen parts of sixteen chips: the sign of the part times that of the chip, times 1+j
part_sign : ℕ → ℕ → ℤ
part_sign zero m = a_signs at m
part_sign (suc i) m = b_signs at m *ℤ hadamard_part i m

chip_sign : ℕ → ℕ → ℤ
chip_sign zero n = a at n
chip_sign (suc i) n = b at n

by_signs : (x : ℕ) → T (has_code x) → (m n : ℕ) → n < 16 → sync_code x (m * 16 + n) ≡ real (part_sign x m *ℤ chip_sign x n) ⊗ (pos 1 +j pos 1)
unfolding part_sign chip_sign
by_signs zero t m n l = Cp_parts m n l
by_signs (suc i) t m n l = C_parts m n l i t ∙ ap (λ (s : ℤ). real s ⊗ (pos 1 +j pos 1)) (*ℤ_swap (b_signs at m) (b at n) (hadamard_part i m))

-- ---- a correlation of two codes is made of two sums of sixteen
inner : (ℕ → ℤ) → (ℕ → ℤ) → ℤ
inner p q = Σℤ< 16 (λ n. p n *ℤ q n)

one_plus_j_squared : (pos 1 +j pos 1) ⊗ conj (pos 1 +j pos 1) ≡ real (pos 2)
unfolding ◌⊗◌ conj real
one_plus_j_squared = refl

signs_last : (s p t q u v : Complex) → ((s ⊗ p) ⊗ u) ⊗ ((t ⊗ q) ⊗ v) ≡ ((u ⊗ v) ⊗ (s ⊗ t)) ⊗ (p ⊗ q)
signs_last s p t q u v = simp products

module _ (x y : ℕ) (t : T (has_code x)) (u : T (has_code y)) where
  abbrev part_sum : ℤ
  part_sum = inner (part_sign x) (part_sign y)

  abbrev chip_sum : ℤ
  chip_sum = inner (chip_sign x) (chip_sign y)

  over_chip : (m n : ℕ) → n < 16
      → sync_code x (m * 16 + n) ⊗ conj (sync_code y (m * 16 + n)) ≡ (real (pos 2) ⊗ real (part_sign x m *ℤ part_sign y m)) ⊗ real (chip_sign x n *ℤ chip_sign y n)
  over_chip m n l =
      rw (by_signs x t m n l, by_signs y u m n l, conj-⊗, conj_real, real_*ℤ (part_sign x m) (chip_sign x n), real_*ℤ (part_sign y m) (chip_sign y n), signs_last, one_plus_j_squared)
      (rw (← (real_*ℤ (part_sign x m) (part_sign y m)), ← (real_*ℤ (chip_sign x n) (chip_sign y n))))

  over_part : (m : ℕ) → Σ< 16 (λ n. sync_code x (m * 16 + n) ⊗ conj (sync_code y (m * 16 + n))) ≡ (real (pos 2) ⊗ real chip_sum) ⊗ real (part_sign x m *ℤ part_sign y m)
  unfolding inner
  over_part m =
      Σ_cong 16 _ (λ n. (real (pos 2) ⊗ real (part_sign x m *ℤ part_sign y m)) ⊗ real (chip_sign x n *ℤ chip_sign y n)) (λ n l. over_chip m n l)
      ∙ sym (⊗-Σ 16 (λ n. real (chip_sign x n *ℤ chip_sign y n)) (real (pos 2) ⊗ real (part_sign x m *ℤ part_sign y m)))
      ∙ rw (← (real_Σ 16 (λ n. chip_sign x n *ℤ chip_sign y n))) (⊗-swap _ _ _)

  by_sums : correlation (sync_code x) (sync_code y) ≡ real ((pos 2 *ℤ chip_sum) *ℤ part_sum)
  unfolding correlation inner
  by_sums =
      Σ_blocks 16 16 (λ n. sync_code x n ⊗ conj (sync_code y n))
      ∙ Σ_cong 16 _ (λ m. (real (pos 2) ⊗ real chip_sum) ⊗ real (part_sign x m *ℤ part_sign y m)) (λ m k. over_part m)
      ∙ sym (⊗-Σ 16 (λ m. real (part_sign x m *ℤ part_sign y m)) (real (pos 2) ⊗ real chip_sum))
      ∙ rw (← (real_Σ 16 (λ m. part_sign x m *ℤ part_sign y m)), ← (real_*ℤ (pos 2) chip_sum), ← (real_*ℤ (pos 2 *ℤ chip_sum) part_sum))

-- ---- the one test, and the one law
-- what two codes correlate to
abbrev pub equal_512 : ℕ → ℕ → ℤ
equal_512 x y = cond (eqb x y) (pos 512) (pos 0)

sums_to_512 : ℕ → ℕ → Bool
sums_to_512 x y = same ((pos 2 *ℤ inner (chip_sign x) (chip_sign y)) *ℤ inner (part_sign x) (part_sign y)) (equal_512 x y)

sums_to_512_test : T (each 17 (λ x. each 17 (sums_to_512 x)))
unfolding each sums_to_512 same inner part_sign chip_sign Σℤ< ◌at◌ hadamard_part hadamard ones ones_in
sums_to_512_test = tt

pub orthogonal : (x y : ℕ) → T (has_code x) → T (has_code y) → correlation (sync_code x) (sync_code y) ≡ real (equal_512 x y)
unfolding sums_to_512
orthogonal x y t u =
    by_sums x y t u
    ∙ ap real (same→eq _ (equal_512 x y) (each_at 17 (sums_to_512 x) (each_at 17 (λ x. each 17 (sums_to_512 x)) sums_to_512_test x (has_code_below x t)) y (has_code_below y u)))
