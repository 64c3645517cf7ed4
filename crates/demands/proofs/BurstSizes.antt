-- The components of a sync burst's chips are at most 28665 in size. Assumes nothing.
use mathlib.Core.Path.{sym, subst}
use mathlib.Core.Bool.{Bool, true, false, cond}
use Prim.Native.Nat.{ℕ, ◌*◌, ◌%◌, ◌≤◌}
use native.Mathlib.Omega.{arith}
use lib.Bits.{bit_and}
use lib.Count.{ones}
use lib.Dec.{eqb, lit≤}
use lib.IntN.{ℤ, pos, ◌*ℤ◌}
use Rattle.complex.specs.Arithmetic.{◌+j◌, real, 𝟎, ◌⊗◌}
use Rattle.complex.specs.Fits.{Within, Both}
use Rattle.complex.proofs.Sizes.{within_mul}
use Rattle.complex.proofs.Ring.{real_one_plus_j}
use Rattle.complex.proofs.Components.{gained_within, both-⊕, both-⊗, both_more}
use Rattle.codes.specs.declared.ModulatedCode.{ModulatedCode}
use Rattle.codes.specs.declared.Allocated.{Allocated}
use Rattle.codes.specs.SyncCodes.{a, a_signs, b, b_signs, repeated, Cp, C, z, hadamard, is_sync_code}
use Rattle.codes.specs.Burst.{secondaries}
use Rattle.codes.proofs.Rows.{row_within, minus_if_within, a_test, a_signs_test, b_test, b_signs_test}
use Rattle.codes.proofs.Allocations.{Known, AllKnown}
use Rattle.demands.proofs.BurstCorrelations.{chips}

-- ---- the codes
one_plus_j_within : {x : ℤ} → Within 1 x → Both 1 (real x ⊗ (pos 1 +j pos 1))
one_plus_j_within {x} h = subst (Both 1) (sym (real_one_plus_j x)) (record { re = h; im = h })

primary_within : (n : ℕ) → Both 1 (Cp n)
unfolding Cp repeated
primary_within n = one_plus_j_within (within_mul (row_within a_signs a_signs_test _) (row_within a a_test _))

secondary_within : (i n : ℕ) → Both 1 (C i n)
unfolding C z repeated hadamard 𝟎
secondary_within i n = go (is_sync_code i)
  where
    go : (c : Bool) → Both 1 (cond c (real (z n *ℤ hadamard (16 * i) n) ⊗ (pos 1 +j pos 1)) 𝟎)
    go true = one_plus_j_within (within_mul (within_mul (row_within b_signs b_signs_test _) (row_within b b_test _)) (minus_if_within (eqb (ones (bit_and (16 * i) n) % 2) 1)))
    go false = record { re = record { size = lit≤ tt }; im = record { size = lit≤ tt } }

-- ---- the burst
pub chips_within : (g_p g_s : ℕ) (s : Allocated) → AllKnown s → g_p ≤ 4095 → g_s ≤ 4095 → (n : ℕ) → Both 28665 (chips g_p g_s s n)
unfolding chips secondaries
chips_within g_p g_s s c p q n =
    both_more (both-⊕ (gained_within (primary_within n) g_p) (gained_within (both-⊕ (both-⊕ (sent_within c.first) (sent_within c.second)) (sent_within c.marker)) g_s)) 28665 (omega arith)
  where
    -- a unit with components of at most 1 doubles a size at most
    sent_within : {m : ModulatedCode} → Known m → Both 2 (m.unit ⊗ C m.code n)
    sent_within {m} h = both-⊗ h.small (secondary_within m.code n)
