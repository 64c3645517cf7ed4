-- `raised_entry` meets its contract: each factor's arm takes the entries that the definition takes. Assumes nothing.
use mathlib.Core.Path.{◌≡◌}
use Prim.Native.Nat.{◌+◌, ◌*◌, ◌/◌, ◌%◌}
use native.Mathlib.Omega.{arith}
use borrow.Author.Rules.{rules}
use mir.Syntax.{w32}
use mir.Val.{SFits}
use mir.Facts.{to_z-of_z}
use Rattle.modulation.specs.SixteenChips.{raised}
use Rattle.modulation.proofs.data.raised_entry.Goals as goal

pub returns-in-Q1 : goal.returns-in-Q1
unfolding raised
returns-in-Q1 c =
    let i = c.args.i in
    let e : i / 16 * 16 + i % 16 / 2 ≡ i / 2 = omega arith in
    let f : SFits w32 c.sum_or_difference.result = search rules in
    rw (c.in-Q1.is, e, to_z-of_z f) c.sum_or_difference.ensures

pub returns-in-Q2 : goal.returns-in-Q2
unfolding raised
returns-in-Q2 c =
    let f : SFits w32 c.sum_or_difference-in-Q2.result = search rules in
    rw (c.in-Q2.is, to_z-of_z f) c.sum_or_difference-in-Q2.ensures

pub returns-in-Q4 : goal.returns-in-Q4
unfolding raised
returns-in-Q4 c =
    let f : SFits w32 c.sum_or_difference-in-Q4.result = search rules in
    rw (c.in-Q4.is, to_z-of_z f) c.sum_or_difference-in-Q4.ensures

pub returns-in-Q8 : goal.returns-in-Q8
unfolding raised
returns-in-Q8 c =
    let i = c.args.i in
    let e : i / 2 * 2 + i % 2 / 2 ≡ i / 2 * 2 = omega arith in
    let f : SFits w32 c.sum_or_difference-in-Q8.result = search rules in
    rw (c.in-Q8.is, e, to_z-of_z f) c.sum_or_difference-in-Q8.ensures

pub returns-in-Q16 : goal.returns-in-Q16
unfolding raised
returns-in-Q16 c = rw c.in-Q16.is
