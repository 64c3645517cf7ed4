-- A sync burst standing alone, read with its own case, gives the group, frame and half that it was made for. Assumes nothing.
use mathlib.Core.Path.{◌≡◌, ap₂, subst, ◌∙◌}
use mathlib.Core.Bool.{false}
use mathlib.Core.List.{List}
use Prim.Native.Nat.{ℕ, ◌≤◌, ◌<◌}
use native.Mathlib.Nat.{mul-le-mul}
use native.Mathlib.Omega.{arith}
use borrow.Author.Tests.{ne_eqb}
use lib.Dec.{T, lit≤}
use lib.IntN.{ℤ, pos, ◌+ℤ◌, ◌*ℤ◌}
use lib.ListN.{length}
use Rattle.complex.specs.declared.Complex.{Complex}
use Rattle.complex.specs.Arithmetic.{◌⊗◌, conj}
use Rattle.complex.specs.Buffers.{value, in_buffers, Values}
use Rattle.complex.specs.Fits.{Both}
use Rattle.complex.proofs.Lists.{length_listed, value_in_buffers}
use Rattle.complex.proofs.Order.{times_lt_z}
use Rattle.complex.proofs.Sizes.{within_more}
use Rattle.codes.specs.Refusals.{gives}
use Rattle.codes.specs.declared.ModulatedCode.{ModulatedCode}
use Rattle.codes.specs.declared.Allocated.{Allocated}
use Rattle.codes.specs.Allocation.{one_or_two, bad_frame_or_half}
use Rattle.codes.specs.Burst.{burst}
use Rattle.codes.specs.SyncCodes.{Cp, C}
use Rattle.codes.proofs.Tests.{T_true}
use Rattle.analyser_parts.specs.Components.{outside}
use Rattle.analyser_parts.proofs.Ranges.{none_outside}
use Rattle.read_sync.specs.declared.Candidate.{Candidate}
use Rattle.read_sync.specs.SyncReading.{candidate_for, candidate, candidate_count, share, total_share, score, winner, read_sync_call}
use Rattle.read_sync.proofs.Leading.{beats_all}
use Rattle.demands.proofs.BurstCorrelations.{agreement, chips, scale, correlation_cong, score_of}
use Rattle.demands.proofs.Candidates.{has_number, chosen, chosen_known, agrees_less}
use Rattle.demands.proofs.BurstSizes.{chips_within}

-- what stands in the buffers is what is scored
module _ (x y : ℕ → Complex) (h : (n : ℕ) → n < 256 → x n ≡ y n) where
  share_cong : (m : ModulatedCode) → share x m ≡ share y m
  unfolding share
  share_cong m = ap₂ (λ (s p : Complex). (s ⊗ conj m.unit ⊗ conj p).re) (correlation_cong (C m.code) x y h) (correlation_cong Cp x y h)

  total_cong : (s : Allocated) → total_share x s ≡ total_share y s
  total_cong s = ap₂ ◌+ℤ◌ (ap₂ ◌+ℤ◌ (share_cong s.first) (share_cong s.second)) (share_cong s.marker)

module _ (case : ℕ) (t : T (one_or_two case)) (own : ℕ) (l : own < candidate_count case) where
  not_refused : (re im : List ℤ) → length re ≡ 256 → length im ≡ 256 → outside re ≡ false → outside im ≡ false
      → winner case (value re im) ≡ own → read_sync_call case re im ≡ gives (candidate case own)
  not_refused re im m m' o o' w = rw (T_true (one_or_two case) t, m, m', o, o', w, ne_eqb own (candidate_count case) (omega arith))

  module _ (g_p g_s : ℕ) (p : 1 ≤ g_p) (p' : g_p ≤ 4095) (q : 1 ≤ g_s) (q' : g_s ≤ 4095) where
    chip : ℕ → Complex
    chip = chips g_p g_s (chosen case own)

    buffers : Values
    buffers = in_buffers 256 chip

    score_is : (n : ℕ) → n < candidate_count case
        → score case (value buffers.re buffers.im) n ≡ pos (scale g_p g_s) *ℤ agreement (chosen case own) (chosen case n)
    unfolding score buffers chip chosen
    score_is n k =
        total_cong _ chip (value_in_buffers 256 chip) (chosen case n)
        ∙ score_of g_p g_s (chosen case own) (chosen_known case own) (chosen case n) (chosen_known case n)

    winner_is : winner case (value buffers.re buffers.im) ≡ own
    winner_is =
        beats_all (candidate_count case) (score case (value buffers.re buffers.im)) own l
        (λ n k d. rw (score_is n k, score_is own l)
        (times_lt_z (scale g_p g_s) above_0 (agreement (chosen case own) (chosen case n)) (agreement (chosen case own) (chosen case own))
        (agrees_less case t own n l k d)))
      where
        above_0 : 1 ≤ scale g_p g_s
        above_0 = omega (arith, mul-le-mul q p)

    comes_back : read_sync_call case buffers.re buffers.im ≡ gives (candidate case own)
    unfolding buffers chip
    comes_back =
        not_refused buffers.re buffers.im (length_listed (λ n. (chip n).re) 256) (length_listed (λ n. (chip n).im) 256)
        (none_outside 256 (λ n. (chip n).re) (λ n k. within_more (within n).re _ (lit≤ tt)))
        (none_outside 256 (λ n. (chip n).im) (λ n k. within_more (within n).im _ (lit≤ tt)))
        winner_is
      where
        within : (n : ℕ) → Both 28665 (chip n)
        within = chips_within g_p g_s (chosen case own) (chosen_known case own) p' q'

-- Demand 2: "a sync burst standing alone, read with its own case, comes back as the group, frame and slot it was made for".
pub burst_read_back : (case g frame half g_p g_s : ℕ) → T (one_or_two case) → g < 32 → bad_frame_or_half case frame half ≡ false → 1 ≤ g_p → g_p ≤ 4095 → 1 ≤ g_s → g_s ≤ 4095
    → let b = in_buffers 256 (burst case g frame half g_p g_s) in read_sync_call case b.re b.im ≡ gives (candidate_for g frame half)
unfolding burst chips buffers chip chosen
burst_read_back case g frame half g_p g_s t h u p p' q q' =
    let n = has_number case g frame half t h u in
    subst
    (λ (c : Candidate). let b = in_buffers 256 (burst case c.group.0 c.frame c.half g_p g_s) in read_sync_call case b.re b.im ≡ gives c)
    n.is (comes_back case t n.index n.below g_p g_s p p' q q')
