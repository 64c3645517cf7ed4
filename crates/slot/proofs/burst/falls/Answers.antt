-- `falls` meets its contract: nowhere without a burst, else where the test of `sync_chip` holds. Assumes nothing.
use mathlib.Core.Path.{◌≡◌, sym, ap, ◌∙◌}
use mathlib.Core.Bool.{◌&&◌}
use mathlib.Core.Logic.{inl, inr}
use mathlib.Core.Option.{Option}
use borrow.Author.Tests.{le-leb, lt-leb}
use Prim.Native.Nat.{◌+◌}
use lib.Dec.{leb, ltb}
use Rattle.slot.specs.Setup.{SyncSetup}
use Rattle.slot.specs.View.{view_sync}
use Rattle.slot.specs.Slot.{burst_falls_on}
use Rattle.slot.proofs.BurstPlace.{cell_start, start_found}
use Rattle.slot.proofs.BurstBlocks.{view_off, view_on}
use Rattle.slot.proofs.burst.falls.Goals as goal
use Rattle.slot.proofs.burst.falls.Goals.{After-start_of-start, Start}

-- the burst's start, and the test for a burst
module _ (c : After-start_of-start) where
  abbrev began : Start
  began = c.before.before.before.before.before.before

  start_is : c.start_of-start.result ≡ cell_start began.args.cell.0
  start_is = start_found _ _ c.if-cell-ge128.false c.group_of.ensures c.start_of-start.ensures

  tested : burst_falls_on began.args.cell.0 (view_sync began.args.cell.0 began.args.y) began.args.x
      ≡ (leb c.start_of-start.result began.args.x && ltb began.args.x (c.start_of-start.result + 256))
  tested =
      ap (λ (o : Option SyncSetup). burst_falls_on began.args.cell.0 o began.args.x) (view_on _ _ c.if-y-eq0.false c.if-cell-ge128.false)
      ∙ (λ j. leb (sym start_is j) began.args.x && ltb began.args.x (sym start_is j + 256))

pub returns-then-y-eq0 : goal.returns-then-y-eq0
returns-then-y-eq0 c = let s = c.args in sym (ap (λ (o : Option SyncSetup). burst_falls_on s.cell.0 o s.x) (view_off _ _ (inl c.if-y-eq0.true)))

pub returns-then-cell-ge128 : goal.returns-then-cell-ge128
returns-then-cell-ge128 c = let s = c.args in sym (ap (λ (o : Option SyncSetup). burst_falls_on s.cell.0 o s.x) (view_off _ _ (inr c.if-cell-ge128.true)))

pub returns-then-start-x : goal.returns-then-start-x
returns-then-start-x c = sym (tested (goal.at.returns-then-start-x c).After-start_of-start ∙ rw (le-leb _ _ c.if-start-x.true))

pub returns-else-start-x : goal.returns-else-start-x
returns-else-start-x c = let e = lt-leb _ _ c.if-start-x.false in e ∙ sym (tested (goal.at.returns-else-start-x c).After-start_of-start ∙ rw e)
