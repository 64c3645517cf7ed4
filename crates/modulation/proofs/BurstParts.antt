-- The burst by parts of sixteen chips, as the code makes it. Assumes nothing.
use mathlib.Core.Path.{◌≡◌, sym, ap, ap₂, ◌∙◌, subst}
use Prim.Native.Nat.{ℕ, ◌+◌, ◌*◌, ◌/◌, ◌%◌, ◌≤◌, ◌<◌}
use native.Mathlib.Omega.{arith}
use lib.Dec.{T, lit≤}
use lib.IntN.{ℤ, pos, ◌+ℤ◌, ◌-ℤ◌, ◌*ℤ◌}
use Rattle.complex.specs.declared.Complex.{Complex}
use Rattle.complex.specs.Arithmetic.{◌+j◌, real, ◌⊕◌, ◌⊗◌}
use Rattle.complex.specs.Fits.{Within, Both}
use Rattle.complex.proofs.Integers.{ring, *ℤ_swap}
use Rattle.complex.proofs.Ring.{by_components, products, ⊗-⊕, ⊕-⊗, real_*ℤ, real-⊗, real_one_plus_j}
use Rattle.complex.proofs.Sizes.{within_more, within_add, within_sub, within_mul}
use Rattle.complex.proofs.Components.{both-⊕, both_sign}
use Rattle.complex.specs.Buffers.{◌at◌}
use Rattle.codes.specs.PackedSigns.{sign_bit, secondary_row}
use Rattle.codes.specs.declared.ModulatedCode.{ModulatedCode}
use Rattle.codes.specs.declared.Allocated.{Allocated}
use Rattle.codes.specs.SyncCodes.{a, a_signs, b, b_signs, Cp, C, hadamard_part, is_sync_code}
use Rattle.codes.specs.Allocation.{allocation}
use Rattle.codes.specs.Burst.{secondaries, burst}
use Rattle.codes.proofs.Rows.{sign_within, row_within, a_test, a_signs_test, b_test}
use Rattle.codes.proofs.Parts.{Cp_parts, C_parts, secondary_signs, sync_code_below}
use Rattle.codes.proofs.Allocations.{AllKnown, allocation_known}
use Rattle.modulation.specs.SixteenChips.{modulated_part, modulated_parts, part_chip}

-- (1 + j) t times g, as the code computes it
pub gained_is : (g : ℤ) (t : Complex) → real g ⊗ (t ⊗ (pos 1 +j pos 1)) ≡ g *ℤ (t.re -ℤ t.im) +j g *ℤ (t.re +ℤ t.im)
unfolding ◌⊗◌
gained_is g t =
    real-⊗ g (t ⊗ (pos 1 +j pos 1))
    ∙ by_components (ap (λ (x : ℤ). g *ℤ x) (by t.re t.im)) (ap (λ (x : ℤ). g *ℤ x) (by' t.re t.im))
  where
    by : (x y : ℤ) → x *ℤ pos 1 -ℤ y *ℤ pos 1 ≡ x -ℤ y
    by x y = simp ring

    by' : (x y : ℤ) → x *ℤ pos 1 +ℤ y *ℤ pos 1 ≡ x +ℤ y
    by' x y = simp ring

-- a part's chip, component by component
pub part_chip_is : (p : ℤ) (s : Complex) (i : ℕ) → part_chip p s i ≡ (a at i *ℤ p +ℤ b at i *ℤ s.re) +j (a at i *ℤ p +ℤ b at i *ℤ s.im)
unfolding ◌⊕◌
part_chip_is p s i = ap₂ ◌⊕◌ (real-⊗ (a at i) (p +j p)) (real-⊗ (b at i) s)

module _ (m i : ℕ) (h : m < 16) (l : i < 16) where
  -- a part of a code has one sign, which its unit takes; (1 + j) b is common to the codes
  code_part : (c : ModulatedCode) → T (is_sync_code c.code) → c.unit ⊗ C c.code (m * 16 + i) ≡ real (b at i) ⊗ (modulated_part c m ⊗ (pos 1 +j pos 1))
  unfolding modulated_part
  code_part c t =
      ap (λ (x : Complex). c.unit ⊗ x) (C_parts m i l c.code t ∙ ap (λ (x : Complex). x ⊗ (pos 1 +j pos 1)) sign)
      ∙ simp products
    where
      sign : real ((b_signs at m *ℤ b at i) *ℤ hadamard_part c.code m) ≡ real (sign_bit (secondary_row c.code) m) ⊗ real (b at i)
      sign =
          ap real (*ℤ_swap (b_signs at m) (b at i) (hadamard_part c.code m))
          ∙ real_*ℤ (b_signs at m *ℤ hadamard_part c.code m) (b at i)
          ∙ ap (λ (x : ℤ). real x ⊗ real (b at i)) (sym (secondary_signs c.code m (sync_code_below c.code t) h))

  secondary_parts : (s : Allocated) → AllKnown s → secondaries s (m * 16 + i) ≡ real (b at i) ⊗ (modulated_parts s m ⊗ (pos 1 +j pos 1))
  unfolding secondaries
  secondary_parts s k =
      rw (code_part s.first k.first.listed, code_part s.second k.second.listed, code_part s.marker k.marker.listed)
      (simp (⊕-⊗, ⊗-⊕))

  -- and the primary code's part is its sign times (1 + j) a
  pub burst_parts : (case g frame half g_p g_s : ℕ)
      → burst case g frame half g_p g_s (m * 16 + i)
      ≡ part_chip (a_signs at m *ℤ pos g_p) (real (pos g_s) ⊗ (modulated_parts (allocation case g frame half) m ⊗ (pos 1 +j pos 1))) i
  unfolding burst
  burst_parts case g frame half g_p g_s = ap₂ ◌⊕◌ primary secondary
    where
      primary : real (pos g_p) ⊗ Cp (m * 16 + i) ≡ real (a at i) ⊗ ((a_signs at m *ℤ pos g_p) +j (a_signs at m *ℤ pos g_p))
      primary = rw (Cp_parts m i l, real_*ℤ, ← (real_one_plus_j (a_signs at m *ℤ pos g_p)), real_*ℤ) (simp products)

      secondary : real (pos g_s) ⊗ secondaries (allocation case g frame half) (m * 16 + i)
          ≡ real (b at i) ⊗ (real (pos g_s) ⊗ (modulated_parts (allocation case g frame half) m ⊗ (pos 1 +j pos 1)))
      secondary = rw (secondary_parts (allocation case g frame half) (allocation_known case g frame half)) (simp products)

-- ---- sizes
pub modulated_both : (c : ModulatedCode) → Both 1 c.unit → (m : ℕ) → Both 1 (modulated_part c m)
unfolding modulated_part
modulated_both c h m = both_sign h (sign_within _ m)

-- as `modulated_parts` asks
abbrev pub SmallUnits : Allocated → Type 0
SmallUnits s = Both 1 s.first.unit × Both 1 s.second.unit × Both 1 s.marker.unit

pub small_units : (s : Allocated) → AllKnown s → SmallUnits s
small_units s k = (k.first.small, k.second.small, k.marker.small)

pub modulated_parts_both : (s : Allocated) → SmallUnits s → (m : ℕ) → Both 3 (modulated_parts s m)
modulated_parts_both s h m = both-⊕ (both-⊕ (modulated_both _ h.0 m) (modulated_both _ h.1 m)) (modulated_both _ h.2 m)

-- gains are 16-bit numbers
pub gained_both : (g : ℕ) (t : Complex) → g ≤ 65535 → Both 3 t → Both 400000 (real (pos g) ⊗ (t ⊗ (pos 1 +j pos 1)))
gained_both g t h k =
    subst (Both 400000) (sym (gained_is (pos g) t))
    (record { re = within_more (within_mul gain (within_sub k.re k.im)) 400000 (lit≤ tt); im = within_more (within_mul gain (within_add k.re k.im)) 400000 (lit≤ tt) })
  where
    gain : Within 65535 (pos g)
    gain = record { size = h }

pub part_chip_both : {p : ℤ} {s : Complex} → Within 65535 p → Both 400000 s → (i : ℕ) → Both 465535 (part_chip p s i)
part_chip_both {p} {s} h k i = both-⊕ (both_sign (record { re = h; im = h }) (row_within a a_test i)) (both_sign k (row_within b b_test i))

pub burst_both : (case g frame half g_p g_s n : ℕ) → g_p ≤ 65535 → g_s ≤ 65535 → n < 256 → Both 465535 (burst case g frame half g_p g_s n)
burst_both case g frame half g_p g_s n hP hS h =
    subst (Both 465535) (sym (ap (burst case g frame half g_p g_s) place ∙ burst_parts (n / 16) (n % 16) (omega arith) (omega arith) case g frame half g_p g_s))
    (part_chip_both (within_mul (row_within a_signs a_signs_test (n / 16)) (record { size = hP })) (gained_both g_s _ hS (modulated_parts_both s (small_units s (allocation_known case g frame half)) (n / 16))) (n % 16))
  where
    s : Allocated
    s = allocation case g frame half

    place : n ≡ n / 16 * 16 + n % 16
    place = omega arith
