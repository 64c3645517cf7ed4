-- Every code that an allocation names is a secondary code, and its unit has components of at most 1. Assumes nothing.
use mathlib.Core.Path.{◌≡◌, refl}
use mathlib.Core.Bool.{Bool, true, false, ◌&&◌, not, cond}
use mathlib.Core.List.{[], ◌∷◌}
use Prim.Native.Nat.{ℕ, zero, suc, ◌+◌, ◌/◌, ◌%◌, ◌<◌}
use native.Mathlib.Omega.{arith}
use mir.Facts.{and_yes}
use lib.Dec.{T, eqb, leb, lit≤}
use borrow.Author.Tests.{leb-false}
use lib.IntN.{ℤ, pos}
use Rattle.complex.specs.Arithmetic.{◌+j◌}
use Rattle.complex.specs.declared.Complex.{Complex}
use Rattle.complex.specs.Arithmetic.{real, 𝟎, 𝟏, 𝐣, ◌⊗◌, j^}
use Rattle.complex.proofs.Ring.{𝟏-⊗, ⊗-𝟏}
use Rattle.complex.specs.Fits.{Within, Both}
use Rattle.complex.proofs.Sizes.{within_mul}
use Rattle.complex.proofs.Components.{both_sign}
use Rattle.codes.specs.Range.{each}
use Rattle.codes.specs.Signs.{minus_if}
use Rattle.codes.specs.Tree.{among}
use Rattle.codes.specs.declared.ModulatedCode.{ModulatedCode}
use Rattle.codes.specs.declared.Allocated.{Allocated}
use Rattle.codes.specs.declared.burst.CodeSet.{CodeSet}
use Rattle.codes.specs.SyncCodes.{is_sync_code}
use Rattle.codes.specs.Allocation.{allocation_row, code_set, signed, case_1, case_2, one_or_two, bad_frame_or_half, allocation, with_unit, silent}
use Rattle.codes.proofs.Tests.{each_at}
use Rattle.codes.proofs.Rows.{minus_if_within}

pub record Known (m : ModulatedCode) : Type 0 where
  pub listed : T (is_sync_code m.code)
  pub small : Both 1 m.unit

pub record AllKnown (s : Allocated) : Type 0 where
  pub first : Known s.first
  pub second : Known s.second
  pub marker : Known s.marker

-- ---- the rows of all code sets
none_small : Both 1 𝟎
unfolding 𝟎
none_small = record { re = record { size = lit≤ tt }; im = record { size = lit≤ tt } }

pub unit_small : (n : ℕ) (s : CodeSet) → Both 1 (allocation_row n s).unit
unfolding allocation_row 𝟏 𝐣
unit_small zero s = record { re = record { size = lit≤ tt }; im = record { size = lit≤ tt } }
unit_small (suc zero) s = record { re = record { size = lit≤ tt }; im = record { size = lit≤ tt } }
unit_small (suc (suc zero)) s = record { re = record { size = lit≤ tt }; im = record { size = lit≤ tt } }
unit_small (suc (suc (suc zero))) s = record { re = record { size = lit≤ tt }; im = record { size = lit≤ tt } }
unit_small (suc (suc (suc (suc n)))) s = none_small

-- a code's unit, turned half around where the sign is negative
pub sign_times : (t : Bool) (u : Complex) → real (minus_if t) ⊗ u ≡ cond t (j^ 2 ⊗ u) u
unfolding real 𝟏 𝐣 ◌⊗◌ j^
sign_times true u = refl
sign_times false u = 𝟏-⊗ u

-- times 1, written out
pub times_one : (x : Complex) → x ⊗ (pos 1 +j pos 0) ≡ x
unfolding 𝟏
times_one x = ⊗-𝟏 x

known_row : ℕ → ℕ → Bool
known_row k n =
    let r = allocation_row n (code_set (1 + k)) in
    is_sync_code r.first && (is_sync_code r.second && is_sync_code r.marker)

rows_test : T (each 4 (λ k. each 4 (known_row k)))
unfolding each known_row allocation_row code_set is_sync_code
rows_test = tt

signed_known : (k n : ℕ) → k < 4 → n < 4 → {s t m : ℤ} → Within 1 s → Within 1 t → Within 1 m → AllKnown (signed (allocation_row n (code_set (1 + k))) s t m)
unfolding known_row signed real
signed_known k n h g {s} {t} {m} hs ht hm =
    let r = allocation_row n (code_set (1 + k)) in
    let a = and_yes (is_sync_code r.first) _ (each_at 4 (known_row k) (each_at 4 (λ k. each 4 (known_row k)) rows_test k h) n g) in
    let b = and_yes (is_sync_code r.second) _ a.1 in
    let u = unit_small n (code_set (1 + k)) in
    record {
      first = record { listed = a.0; small = both_sign u hs };
      second = record { listed = b.0; small = both_sign u ht };
      marker = record { listed = b.1; small = record { re = hm; im = record { size = lit≤ tt } } };
    }

silent_known : AllKnown silent
unfolding is_sync_code
silent_known = record { first = none; second = none; marker = none }
  where
    none : Known (with_unit 0 𝟎)
    none = record { listed = tt; small = none_small }

pub allocation_known : (case g frame half : ℕ) → AllKnown (allocation case g frame half)
unfolding allocation case_1 case_2
allocation_known case g frame half = go (leb 32 g) refl (one_or_two case) (not (bad_frame_or_half case frame half)) (eqb case 1)
  where
    sign : (b : Bool) → Within 1 (minus_if b)
    sign b = minus_if_within b

    go : (a : Bool) → leb 32 g ≡ a → (o f c : Bool) → AllKnown (cond (not a && o && f) (cond c (case_1 g frame) (case_2 g frame half)) silent)
    go true e o f c = silent_known
    go false e false f c = silent_known
    go false e true false c = silent_known
    go false e true true true = let h : g < 32 = leb-false 32 g e in signed_known (g / 16) (g % 16 / 4) (omega arith) (omega arith) (sign (among (g % 16 % 4) (2 ∷ 3 ∷ []))) (sign (among (g % 16 % 4) (1 ∷ 3 ∷ []))) (sign (eqb frame 2))
    go false e true true false =
        let h : g < 32 = leb-false 32 g e in
        signed_known (g / 8) (g % 8 / 2) (omega arith) (omega arith) (sign (eqb frame 2)) (within_mul (sign (eqb frame 2)) (sign (eqb (g % 8 % 2) 1))) (sign (eqb half 1))
