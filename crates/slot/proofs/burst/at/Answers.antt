-- `at` meets its contract: nothing where the burst does not fall, else one of its parts. Assumes nothing.
use mathlib.Core.Path.{◌≡◌, sym, ap, ap₂, ◌∙◌}
use mathlib.Core.Option.{Option, some}
use Prim.Native.Nat.{ℕ, ◌+◌, ◌*◌, ◌-◌, ◌/◌, ◌≤◌, ◌<◌}
use native.Mathlib.Omega.{arith}
use borrow.Author.Tests.{not-true, not-false}
use Rattle.complex.specs.Buffers.{block_of}
use Rattle.complex.specs.declared.Complex.{Complex}
use Rattle.complex.specs.Fits.{Bound}
use Rattle.codes.specs.Burst.{burst}
use Rattle.complex.specs.declared.Block.{Block}
use Rattle.complex.proofs.Blocks.{block_bound, block_cong}
use Rattle.slot.specs.Setup.{SyncSetup}
use Rattle.slot.specs.Slot.{sync_chip}
use Rattle.slot.specs.View.{view_sync}
use Rattle.slot.proofs.BurstPlace.{cell_start, start_found}
use Rattle.slot.proofs.BurstBlocks.{viewed, falls_nowhere, falls_there, block_inside, view_both}
use Rattle.slot.proofs.burst.at.Goals as goal
use Rattle.slot.proofs.burst.at.Goals.{After-start_of-start, Start}

module _ (c : Start) where
  abbrev p : ℕ
  p = c.args.cell.0

  -- the chips due for settings o
  abbrev due : Option SyncSetup → ℕ → Complex
  due o i = sync_chip p o (c.args.x + i)

  -- the chips, and their size
  sized : {r : Block} → r ≡ block_of (due (view_sync p c.args.y))
      → (r ≡ block_of (due (view_sync p c.args.y))) × (Bound 1000000 r.re × Bound 1000000 r.im)
  sized e = (e, block_bound (due (view_sync p c.args.y)) e (λ i. view_both p c.args.y (omega arith) (omega arith) (c.args.x + i)))

module _ (c : After-start_of-start) where
  abbrev began : Start
  began = c.before.before.before.before

  there : let s = began.args in (view_sync (p began) s.y ≡ some (viewed s.y)) × (p began < 128) × (cell_start (p began) ≤ s.x) × (s.x < cell_start (p began) + 256)
  there = falls_there _ _ _ (sym c.falls.ensures ∙ not-false _ c.if-not-falls.false-raw)

  start_is : c.start_of-start.result ≡ cell_start (p began)
  start_is = start_found _ _ there.1 c.group_of-group.ensures c.start_of-start.ensures

pub returns-then-not-falls : goal.returns-then-not-falls
returns-then-not-falls c =
    let r = sized (goal.at.returns-then-not-falls c).Start (c.silence.ensures ∙ block_cong _ _ (λ i l. sym (falls_nowhere (p (goal.at.returns-then-not-falls c).Start) (view_sync (p (goal.at.returns-then-not-falls c).Start) c.args.y) c.args.x c.requires (sym c.falls.ensures ∙ not-true _ c.if-not-falls.true-raw) i l))) in
    record { chips = r.0; size = r.1 }

pub overflow_sub-x : goal.overflow_sub-x
overflow_sub-x c = omega (arith, start_is c, there c)

pub overflow_cast-x : goal.overflow_cast-x
overflow_cast-x c = omega (arith, start_is c, there c)

pub part-requires : goal.part-requires
part-requires c = omega (arith, start_is c, there c)

pub returns : goal.returns
returns c =
    let s = (began (goal.at.returns c).After-start_of-start).args in
    let y = s.y in
    let r = sized (began (goal.at.returns c).After-start_of-start)
    (c.part.ensures
    ∙ ap₂ (λ g b. block_of (λ i. burst y.case g y.frame y.half y.gp y.gs ((s.x - b) / 16 * 16 + i))) c.group_of-group.ensures (start_is (goal.at.returns c).After-start_of-start)
    ∙ block_inside _ (viewed y) _ (began (goal.at.returns c).After-start_of-start).requires (there (goal.at.returns c).After-start_of-start).2 (there (goal.at.returns c).After-start_of-start).3
    ∙ ap (λ (o : Option SyncSetup). block_of (due (began (goal.at.returns c).After-start_of-start) o)) (sym (there (goal.at.returns c).After-start_of-start).0)) in
    record { chips = r.0; size = r.1 }
