-- `write_block` meets its contract: a whole block without burst as it is, any other with the burst's chips. Assumes nothing.
use mathlib.Core.Path.{sym, ◌∙◌}
use Prim.Native.Nat.{ℕ, ◌+◌}
use native.Mathlib.Omega.{arith}
use borrow.Author.Tests.{not-true}
use Rattle.complex.specs.declared.Complex.{Complex}
use Rattle.modulation.specs.Modulated.{modulated_chip}
use Rattle.slot.specs.Slot.{sync_chip}
use Rattle.slot.specs.View.{view_sync}
use Rattle.slot.proofs.BurstBlocks.{falls_nowhere}
use Rattle.slot.proofs.FieldBlocks.{whole_chips, part_chips}
use Rattle.slot.proofs.field.Sender.write_block.Goals as goal
use Rattle.slot.proofs.field.Sender.write_block.Goals.{Start, After-falls}

-- the block's chips and the burst's
module _ (c : Start) where
  abbrev chips : ℕ → Complex
  chips = modulated_chip c.args.self.now.data c.args.from

  abbrev burst : ℕ → Complex
  burst i = let s = c.args.self.now in sync_chip s.cell.0 (view_sync s.cell.0 s.sync) (c.args.x + i)

pub write_whole-requires : goal.write_whole-requires
write_whole-requires c = let e = c.if-re-eq16.true in (c.requires.0, e, c.requires.2 ∙ e)

pub returns-then-not-falls : goal.returns-then-not-falls
returns-then-not-falls c =
    let b = (goal.at.returns-then-not-falls c).Start in
    let s = c.args.self.now in
    let l = c.if-re-eq16.true in
    let silent = falls_nowhere s.cell.0 (view_sync s.cell.0 s.sync) c.args.x c.requires.3 (sym c.falls.ensures ∙ not-true _ c.if-not-falls.true-raw) in
    record {
      real = whole_chips (λ z. z.re) (chips b) (burst b) _ c.args.i l c.requires.1 silent c.write_whole.ensures.real;
      imaginary = whole_chips (λ z. z.im) (chips b) (burst b) _ c.args.i (c.requires.2 ∙ l) (omega (arith, c.requires.1, c.requires.2)) silent c.write_whole.ensures.imaginary;
    }

pub returns-else-re-eq16 : goal.returns-else-re-eq16
returns-else-re-eq16 c =
    let b = (goal.at.returns-else-re-eq16 c).Start in
    let e = c.at-b.ensures.chips in
    record {
      real = part_chips (λ z. z.re) (chips b) (burst b) _ c.args.i e c.requires.1 c.write_part.ensures.real;
      imaginary = part_chips (λ z. z.im) (chips b) (burst b) _ c.args.i e (omega (arith, c.requires.1, c.requires.2)) c.write_part.ensures.imaginary;
    }
