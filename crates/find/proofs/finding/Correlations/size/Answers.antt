-- `size` meets its contract. Assumes nothing.
use mathlib.Core.Path.{sym, ap, ◌∙◌, subst}
use borrow.Author.Rules.{rules}
use mir.Syntax.{w32, w64}
use mir.Val.{SFits}
use mir.Facts.{to_z-of_z}
use Rattle.complex.specs.Arithmetic.{squared_size}
use Rattle.complex.specs.Buffers.{◌at◌}
use Rattle.complex.specs.Fits.{Both}
use Rattle.complex.proofs.Sizes.{fits_within}
use Rattle.analyser_parts.proofs.Correlations.{one_minus_j_within}
use Rattle.find.specs.PeakSearch.{size_of}
use Rattle.find.proofs.finding.Correlations.size.Goals as goal

pub squared-requires : goal.squared-requires
squared-requires c =
    let s = c.args.self.now in
    let re = to_z-of_z {w = w32} (fits_within (s.re_small.at c.args.k) tt) in
    let im = to_z-of_z {w = w32} (fits_within (s.im_small.at c.args.k) tt) in
    subst (Both 51200000) (sym c.times_one_minus_j.ensures) (one_minus_j_within {k = 25600000} (rw (re, im) (record { re = s.re_small.at c.args.k; im = s.im_small.at c.args.k })))

pub returns : goal.returns
unfolding size_of ◌at◌
returns c =
    let s = c.args.self.now in
    let re = to_z-of_z {w = w32} (fits_within (s.re_small.at c.args.k) tt) in
    let im = to_z-of_z {w = w32} (fits_within (s.im_small.at c.args.k) tt) in
    let f : SFits w64 c.squared.result = search rules in
    to_z-of_z f ∙ c.squared.ensures ∙ ap squared_size (rw (re, im) at c.times_one_minus_j.ensures)
