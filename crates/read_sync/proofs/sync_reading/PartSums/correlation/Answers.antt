-- `correlation` meets its contract. Assumes nothing.
use mathlib.Core.Path.{◌≡◌, sym, ap₂, ◌∙◌, subst}
use borrow.Author.Rules.{rules}
use lib.IntN.{ℤ, pos}
use mir.Syntax.{w32}
use mir.Val.{SFits, to_z, of_z}
use mir.Facts.{to_z-of_z}
use Rattle.complex.specs.Arithmetic.{◌+j◌, ◌⊗◌, conj}
use Rattle.complex.specs.Fits.{Both}
use Rattle.analyser_parts.specs.PartSums.{correlated, signed_sum}
use Rattle.analyser_parts.proofs.Bounds.{signed_sum_within}
use Rattle.analyser_parts.proofs.Products.{held}
use Rattle.read_sync.proofs.Halves.{whole_sum}
use Rattle.read_sync.proofs.Shares.{correlated_within}
use Rattle.read_sync.proofs.sync_reading.PartSums.correlation.Goals as goal
use Rattle.read_sync.proofs.sync_reading.PartSums.correlation.Goals.{After-signed_sum-2}

-- the sums, as the struct holds them
module _ (c : After-signed_sum-2) where
  re_is : to_z w32 (of_z w32 c.signed_sum.result) ≡ signed_sum c.args.self.now.re 0 c.args.signs
  re_is = let f : SFits w32 c.signed_sum.result = search rules in to_z-of_z f ∙ c.signed_sum.ensures ∙ whole_sum _ _

  im_is : to_z w32 (of_z w32 c.signed_sum-2.result) ≡ signed_sum c.args.self.now.im 0 c.args.signs
  im_is = let f : SFits w32 c.signed_sum-2.result = search rules in to_z-of_z f ∙ c.signed_sum-2.ensures ∙ whole_sum _ _

pub times_one_minus_j-requires : goal.times_one_minus_j-requires
times_one_minus_j-requires c =
    let s = c.args.self.now in
    record { re = held (re_is c) (signed_sum_within s.re_small _ _); im = held (im_is c) (signed_sum_within s.im_small _ _) }

pub returns-clause-is : goal.returns-clause-is
unfolding correlated
returns-clause-is c =
    let place = (goal.at.returns-clause-is c).After-signed_sum-2 in
    c.times_one_minus_j.ensures ∙ ap₂ (λ (x y : ℤ). (x +j y) ⊗ conj (pos 1 +j pos 1)) (re_is place) (im_is place)

pub returns-clause-size : goal.returns-clause-size
unfolding correlated
returns-clause-size c =
    let place = (goal.at.returns-clause-size c).After-signed_sum-2 in
    let s = c.args.self.now in
    subst (Both 51200000) (sym (c.times_one_minus_j.ensures ∙ ap₂ (λ (x y : ℤ). (x +j y) ⊗ conj (pos 1 +j pos 1)) (re_is place) (im_is place))) (correlated_within s.re_small s.im_small _)
