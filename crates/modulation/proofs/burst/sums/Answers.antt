-- `sums` meets its contract: two entries and their sum fit. Assumes nothing.
use borrow.Author.Rules.{rules}
use lib.IntN.{pos, ◌+ℤ◌}
use lib.ListN.{get_or}
use mir.Syntax.{w32}
use mir.Val.{SFits}
use Rattle.complex.proofs.Calls.{from_fn_listed}
use Rattle.complex.proofs.Machine.{add_asks}
use Rattle.complex.proofs.Sizes.{within_add, fits_within}
use Rattle.complex.proofs.Stored.{held}
use Rattle.modulation.proofs.burst.sums.Goals as goal

pub returns : goal.returns
returns c =
    from_fn_listed c.from_fn.ensures.items (λ i y f h k.
    let a = c.requires.0.at i in
    let b = c.requires.1.at i in
    let p : SFits w32 (get_or c.args.x.now i (pos 0)) = fits_within a tt in
    let q : SFits w32 (get_or c.args.y.now i (pos 0)) = fits_within b tt in
    let s : SFits w32 (held (get_or c.args.x.now i (pos 0)) +ℤ held (get_or c.args.y.now i (pos 0))) = add_asks p q (fits_within (within_add a b) tt) in
    search rules)
