-- `with_own` meets its contract. Assumes nothing.
use native.Mathlib.Omega.{arith}
use borrow.Author.Rules.{rules}
use Prim.Native.Nat.{ℕ, ◌≤◌, ◌/◌}
use lib.IntN.{pos}
use lib.ListN.{get_or}
use mir.Syntax.{w32}
use mir.Val.{SFits}
use Rattle.complex.proofs.Bounds.{bound_listed}
use Rattle.complex.proofs.Calls.{from_fn_listed}
use Rattle.complex.proofs.Sizes.{fits_within}
use Rattle.codes.specs.Tree.{width}
use Rattle.modulation.specs.Levels.{factor}
use Rattle.modulation.specs.Nodes.{node}
use Rattle.modulation.specs.SixteenChips.{own}
use Rattle.modulation.proofs.Levels.{with_own_within}
use Rattle.modulation.proofs.data.with_own.Goals as goal

pub returns-clause-entries : goal.returns-clause-entries
unfolding own
returns-clause-entries c =
    from_fn_listed c.from_fn.ensures.items (λ i y f h k.
    let a = c.requires.1.at i in
    let b = c.requires.0.at i in
    let p : SFits w32 (get_or c.args.x.now i (pos 0)) = fits_within a tt in
    let q : SFits w32 (get_or c.args.s.now i (pos 0)) = fits_within b tt in
    search rules)

pub returns-clause-size : goal.returns-clause-size
returns-clause-size c k l h =
    let gain : (j : ℕ) → get_or c.args.gains.now j 0 ≤ 65535 = λ j. omega (arith, c.fits-gains j) in
    rw (returns-clause-entries c) (bound_listed _ 16 _ (λ i. with_own_within h _ _ _ i (gain (node (factor c.args.level) (i / width (factor c.args.level)))) (c.requires.0.at i)))
