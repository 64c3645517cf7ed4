-- The candidates of a case: each group, frame and half has its number, and a candidate's codes and units agree with themselves more than
-- with any other candidate's. Assumes nothing.
use mathlib.Core.Path.{◌≡◌, sym, subst, ◌∙◌}
use mathlib.Core.Bool.{Bool, true, false, ◌&&◌, ◌||◌, not, and-true}
use mathlib.Core.Logic.{◌≢◌}
use Prim.Native.Nat.{ℕ, ◌+◌, ◌*◌, ◌-◌, ◌<◌, ◌≤◌}
use native.Mathlib.Decide.{ℕ_discrete}
use native.Mathlib.Omega.{arith}
use borrow.Author.Tests.{ltb-false, eqb-false, not-false, ne_eqb}
use mir.Facts.{and_yes}
use lib.Dec.{T, eqb, ltb}
use lib.IntN.{pos}
use lib.Signed.{lt_z}
use Rattle.complex.specs.Arithmetic.{real, 𝟏, 𝐣, ◌⊗◌}
use Rattle.codes.specs.Range.{each}
use Rattle.codes.specs.declared.Allocated.{Allocated}
use Rattle.codes.specs.Allocation.{allocation, one_or_two, bad_frame_or_half, case_1, case_2, signed, allocation_row, code_set}
use Rattle.codes.proofs.Tests.{each_at, neither, same, same→eq, T_true}
use Rattle.codes.proofs.Allocations.{AllKnown, allocation_known}
use Rattle.read_sync.specs.declared.Candidate.{Candidate}
use Rattle.read_sync.specs.SyncReading.{candidate_for, candidate, candidate_count, candidate_codes}
use Rattle.demands.proofs.BurstCorrelations.{along, match, heard, agreement}

one_or_other : (F : ℕ → Type 0) → F 1 → F 2 → (n : ℕ) → T (one_or_two n) → F n
unfolding one_or_two
one_or_other F x y n t = go (ℕ_discrete n 1) (ℕ_discrete n 2)
  where
    go : Dec (n ≡ 1) → Dec (n ≡ 2) → F n
    go (yes e) d = subst F (sym e) x
    go (no d) (yes e) = subst F (sym e) y
    go (no d) (no e) = absurd (rw (ne_eqb n 1 d, ne_eqb n 2 e) at t)

-- ---- numbers
pub record Numbered (case : ℕ) (c : Candidate) : Type 0 where
  pub index : ℕ
  pub below : index < candidate_count case
  pub is : candidate case index ≡ c

equal : {g g' f f' h h' : ℕ} → g ≡ g' → f ≡ f' → h ≡ h' → candidate_for g f h ≡ candidate_for g' f' h'
equal p q r = λ i. candidate_for (p i) (q i) (r i)

either_frame : (frame : ℕ) → T (one_or_two frame) → (1 ≤ frame) × (frame ≤ 2)
either_frame = one_or_other (λ n. (1 ≤ n) × (n ≤ 2)) (omega arith) (omega arith)

module _ (g frame half : ℕ) (h : g < 32) (f : (1 ≤ frame) × (frame ≤ 2)) (l : half < 2) where
  has_number_1 : half ≡ 0 → Numbered 1 (candidate_for g frame half)
  unfolding candidate
  has_number_1 e = record { index = 2 * g + (frame - 1); below = omega arith; is = equal (omega arith) (omega arith) (omega arith) }

  has_number_2 : Numbered 2 (candidate_for g frame half)
  unfolding candidate
  has_number_2 = record { index = 4 * g + 2 * (frame - 1) + half; below = omega arith; is = equal (omega arith) (omega arith) (omega arith) }

pub has_number : (case g frame half : ℕ) → T (one_or_two case) → g < 32 → bad_frame_or_half case frame half ≡ false → Numbered case (candidate_for g frame half)
unfolding bad_frame_or_half
has_number case g frame half t h u =
    one_or_other (λ case. (eqb half 1 && eqb case 1) ≡ false → Numbered case (candidate_for g frame half))
    (λ v. has_number_1 g frame half h f l (zero_half v)) (λ v. has_number_2 g frame half h f l) case t parts.1.1
  where
    parts : (not (one_or_two frame) ≡ false) × ((ltb 1 half ≡ false) × ((eqb half 1 && eqb case 1) ≡ false))
    parts =
        let p = neither (not (one_or_two frame) || ltb 1 half) (eqb half 1 && eqb case 1) u in
        let q = neither (not (one_or_two frame)) (ltb 1 half) p.0 in
        (q.0, (q.1, p.1))

    f : (1 ≤ frame) × (frame ≤ 2)
    f = either_frame frame (subst T (sym (not-false (one_or_two frame) parts.0)) tt)

    l : half < 2
    l = omega (arith, ltb-false 1 half parts.1.0)

    zero_half : (eqb half 1 && eqb 1 1) ≡ false → half ≡ 0
    zero_half v = omega (arith, eqb-false half 1 (sym (and-true (eqb half 1)) ∙ v), l)

-- ---- the codes
-- the codes that candidate n sends
unfoldable pub chosen : ℕ → ℕ → Allocated
chosen case n = candidate_codes case (candidate case n)

-- they are sync codes, and their units are small
pub chosen_known : (case n : ℕ) → AllKnown (chosen case n)
unfolding chosen
chosen_known case n = let c = candidate case n in allocation_known case c.group.0 c.frame c.half

-- ---- a candidate agrees with itself to 3, and with any other to less
distinct_from : ℕ → ℕ → ℕ → Bool
distinct_from case own n = eqb n own || lt_z (agreement (chosen case own) (chosen case n)) (pos 3)

distinct : ℕ → ℕ → Bool
distinct case own = same (agreement (chosen case own) (chosen case own)) (pos 3) && each (candidate_count case) (distinct_from case own)

distinct_test : T (each 64 (distinct 1) && each 128 (distinct 2))
unfolding each distinct distinct_from chosen same agreement heard match along candidate allocation one_or_two bad_frame_or_half case_1 case_2 signed allocation_row code_set real 𝟏 𝐣 ◌⊗◌
distinct_test = tt

distinct_at : (case : ℕ) → T (one_or_two case) → (own : ℕ) → own < candidate_count case → T (distinct case own)
distinct_at case t own l =
    one_or_other (λ case. (own : ℕ) → own < candidate_count case → T (distinct case own))
    (each_at 64 (distinct 1) tests.0) (each_at 128 (distinct 2) tests.1) case t own l
  where
    tests : T (each 64 (distinct 1)) × T (each 128 (distinct 2))
    tests = and_yes (each 64 (distinct 1)) (each 128 (distinct 2)) distinct_test

pub agrees_less : (case : ℕ) → T (one_or_two case) → (own n : ℕ) → own < candidate_count case → n < candidate_count case → n ≢ own
    → lt_z (agreement (chosen case own) (chosen case n)) (agreement (chosen case own) (chosen case own)) ≡ true
unfolding distinct distinct_from
agrees_less case t own n l k d =
    let p = and_yes (same (agreement (chosen case own) (chosen case own)) (pos 3)) (each (candidate_count case) (distinct_from case own)) (distinct_at case t own l) in
    rw (same→eq _ _ p.0) (T_true _ (rw (ne_eqb n own d) at (each_at (candidate_count case) (distinct_from case own) p.1 n k)))
