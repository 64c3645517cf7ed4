-- `peak` meets its contract: what is left in the scratch buffers makes the sizes of the definition. Assumes nothing.
use mathlib.Core.Path.{◌≡◌, sym, ap, ◌∙◌, subst}
use mathlib.Core.List.{List}
use Prim.Native.Nat.{ℕ, ◌-◌, ◌<◌}
use native.Mathlib.Omega.{arith}
use borrow.Author.Rules.{rules}
use lib.IntN.{ℤ, pos}
use lib.ListN.{get_or, length, take}
use mir.Syntax.{w64}
use mir.Val.{SFits}
use mir.Facts.{to_z-of_z}
use Rattle.complex.specs.Buffers.{listed, value, ◌at◌}
use Rattle.complex.specs.Fits.{Bound}
use Rattle.complex.proofs.Bounds.{bound_listed}
use Rattle.complex.proofs.Lists.{length_listed, listed_at}
use Rattle.analyser_parts.specs.Peaks.{Peaks}
use Rattle.analyser_parts.specs.PartSums.{primary_sum}
use Rattle.analyser_parts.proofs.Choosing.{peaks_cong, peaks_is}
use Rattle.find.specs.Finding.{size_from}
use Rattle.find.specs.PeakSearch.{size_of, sizes}
use Rattle.find.proofs.Golay.{primary_within, size_is}
use Rattle.find.proofs.finding.Recording.peak.Goals as goal
use Rattle.find.proofs.finding.Recording.peak.Goals.{After-correlate-2}

-- a part of a scratch buffer that holds the correlations of x from n starts on
module _ (x part : List ℤ) (n : ℕ) (e : part ≡ listed n (primary_sum x)) where
  part_length : length part ≡ n
  part_length = ap length e ∙ length_listed (primary_sum x) n

  part_bound : Bound 100000 x → Bound 25600000 part
  part_bound h = subst (Bound 25600000) (sym e) (bound_listed 25600000 n _ (primary_within h))

  part_at : (k : ℕ) → k < n → get_or part k (pos 0) ≡ primary_sum x k
  part_at k l = ap (λ (z : List ℤ). get_or z k (pos 0)) e ∙ listed_at (primary_sum x) (pos 0) n k l

-- both components have as many chips
alike : (x y : List ℤ) (m n : ℕ) → m ≡ n → take (n - 255) y ≡ listed (n - 255) (primary_sum x) → take (m - 255) y ≡ listed (m - 255) (primary_sum x)
alike x y m n e h = rw e h

module _ (c : After-correlate-2) where
  abbrev re : List ℤ
  re = c.args.self.now.re.now

  abbrev im : List ℤ
  im = c.args.self.now.im.now

  re_is : take (length re - 255) c.correlate.new.y ≡ listed (length re - 255) (primary_sum re)
  re_is = c.correlate.ensures.0

  im_is : take (length re - 255) c.correlate-2.new.y ≡ listed (length re - 255) (primary_sum im)
  im_is = alike im c.correlate-2.new.y _ _ c.args.self.now.as_many c.correlate-2.ensures.0

pub invariant_of-sums : goal.invariant_of-sums
invariant_of-sums c =
    let place = (goal.at.invariant_of-sums c).After-correlate-2 in
    let r = re_is place in
    let i = im_is place in
    record {
      as_many = part_length _ _ _ r ∙ sym (part_length _ _ _ i);
      short = omega (arith, part_length _ _ _ r);
      re_small = part_bound _ _ _ r c.args.self.now.re_small;
      im_small = part_bound _ _ _ i c.args.self.now.im_small;
    }

pub returns-clause-answer : goal.returns-clause-answer
unfolding ◌at◌
returns-clause-answer c =
    let place = (goal.at.returns-clause-answer c).After-correlate-2 in
    let n = length (re place) - 255 in
    let size = size_from (value (re place) (im place)) in
    let best = c.strongest-best.result in
    let r = re_is place in
    let i = im_is place in
    let made = subst (λ (m : ℕ). Peaks (sizes (take n c.correlate.new.y) (take n c.correlate-2.new.y)) m best) (part_length _ _ _ r) c.strongest-best.ensures in
    let peaks = peaks_cong _ size n best (λ k l. (λ j. size_of (part_at _ _ _ r k l j) (part_at _ _ _ i k l j)) ∙ size_is (re place) (im place) k) made in
    let start = peaks_is size n best peaks in
    let f : SFits w64 best.value = search rules in
    λ j. record { start = sym start j; size = (to_z-of_z f ∙ peaks.own ∙ ap size (sym start)) j }
