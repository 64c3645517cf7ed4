-- `parts` meets its contract. The loop's invariant: the sums passed are in both arrays. Assumes nothing.
use mathlib.Core.Path.{◌≡◌, refl, sym, ap, ◌∙◌}
use Prim.Native.Nat.{ℕ, ◌+◌, ◌*◌}
use native.Mathlib.Omega.{arith}
use borrow.Author.Rules.{rules}
use lib.IntN.{ℤ, ◌+ℤ◌, ◌-ℤ◌}
use lib.ListN.{set}
use mir.Syntax.{w32}
use mir.Val.{SFits, to_z, of_z}
use mir.Facts.{to_z-of_z}
use Rattle.complex.specs.Fits.{Within}
use Rattle.complex.specs.Buffers.{listed}
use Rattle.complex.proofs.Lists.{one_more_written, all_written}
use Rattle.complex.proofs.Sizes.{within_add, within_sub, fits_within}
use Rattle.codes.specs.PackedSigns.{packed}
use Rattle.codes.specs.SyncCodes.{a, b}
use Rattle.analyser_parts.specs.PartSums.{signed_sum}
use Rattle.analyser_parts.proofs.Products.{held}
use Rattle.read_sync.specs.Shares.{half_sum, sum_with_signs}
use Rattle.read_sync.proofs.Halves.{by_a, by_b, half_sum_within}
use Rattle.read_sync.proofs.sync_reading.parts.Goals as goal
use Rattle.read_sync.proofs.sync_reading.parts.Goals.{After-signed_sum-last}

-- the two sums, as the locals hold them
module _ (c : After-signed_sum-last) where
  abbrev from : ℕ
  from = c.loop-m.m * 16

  abbrev first : ℤ
  first = half_sum c.args.x.now from (packed a) 0

  abbrev last : ℤ
  last = half_sum c.args.x.now (from + 8) (packed a) 8

  row_is : c.a_row-row.result ≡ packed a
  row_is = c.a_row-row.ensures

  first_is : to_z w32 (of_z w32 c.signed_sum-first.result) ≡ first
  unfolding half_sum
  first_is =
      let f : SFits w32 c.signed_sum-first.result = search rules in
      to_z-of_z f ∙ c.signed_sum-first.ensures ∙ ap (λ (r : ℕ). sum_with_signs 8 c.args.x.now from r 0) row_is

  last_is : to_z w32 (of_z w32 c.signed_sum-last.result) ≡ last
  unfolding half_sum
  last_is =
      let f : SFits w32 c.signed_sum-last.result = search rules in
      to_z-of_z f ∙ c.signed_sum-last.ensures ∙ ap (λ (r : ℕ). sum_with_signs 8 c.args.x.now (from + 8) r 8) row_is

  first_within : Within 800000 (to_z w32 (of_z w32 c.signed_sum-first.result))
  first_within = held first_is (half_sum_within c.requires.1 _ _ _)

  last_within : Within 800000 (to_z w32 (of_z w32 c.signed_sum-last.result))
  last_within = held last_is (half_sum_within c.requires.1 _ _ _)

  sum : SFits w32 (to_z w32 (of_z w32 c.signed_sum-first.result) +ℤ to_z w32 (of_z w32 c.signed_sum-last.result))
  sum = fits_within (within_add first_within last_within) tt

  difference : SFits w32 (to_z w32 (of_z w32 c.signed_sum-first.result) -ℤ to_z w32 (of_z w32 c.signed_sum-last.result))
  difference = fits_within (within_sub first_within last_within) tt

pub loop-m-init : goal.loop-m-init
unfolding listed
loop-m-init c = (omega arith, refl, refl)

pub overflow_add-y : goal.overflow_add-y
overflow_add-y c = sum (goal.at.overflow_add-y c).After-signed_sum-last

pub overflow_sub-z : goal.overflow_sub-z
overflow_sub-z c = difference (goal.at.overflow_sub-z c).After-signed_sum-last

pub loop-m-preserved : goal.loop-m-preserved
loop-m-preserved c =
    let place = (goal.at.loop-m-preserved c).After-signed_sum-last in
    let l = c.loop-m in
    let x = c.args.x.now in
    let s = to_z-of_z (sum place) ∙ (λ i. first_is place i +ℤ last_is place i) ∙ sym (by_a x (l.m * 16)) in
    let d = to_z-of_z (difference place) ∙ (λ i. first_is place i -ℤ last_is place i) ∙ sym (by_b x (l.m * 16)) in (
      omega arith,
      (λ j. set (l.invariant.1 j) l.m (s j)) ∙ one_more_written (λ k. signed_sum x (k * 16) (packed a)) _ l.m (omega arith),
      (λ j. set (l.invariant.2 j) l.m (d j)) ∙ one_more_written (λ k. signed_sum x (k * 16) (packed b)) _ l.m (omega arith),
    )

pub returns : goal.returns
returns c =
    let l = c.loop-m in
    let e : l.m ≡ 16 = omega arith in
    let y = rw e at l.invariant.1 in
    let z = rw e at l.invariant.2 in
    (y ∙ all_written _ _ 16 refl, z ∙ all_written _ _ 16 refl)
