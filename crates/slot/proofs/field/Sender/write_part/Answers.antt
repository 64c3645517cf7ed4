-- `write_part` meets its contract: the block's chips and the burst's, summed and put. Assumes nothing.
use mathlib.Core.Path.{refl, ap}
use Prim.Native.Nat.{ℕ}
use Rattle.complex.specs.declared.Complex.{Complex}
use Rattle.complex.specs.Arithmetic.{◌⊕◌}
use Rattle.complex.specs.Buffers.{value}
use Rattle.complex.specs.declared.Block.{Block}
use Rattle.modulation.specs.Modulated.{modulated_chip}
use Rattle.slot.proofs.FieldBlocks.{sums_are}
use Rattle.slot.proofs.Pieces.{put_part}
use Rattle.slot.proofs.field.Sender.write_part.Goals as goal
use Rattle.slot.proofs.field.Sender.write_part.Goals.{Start}

-- the block's chips, and with the burst's
module _ (c : Start) where
  abbrev chips : ℕ → Complex
  chips = modulated_chip c.args.self.now.data c.args.from

  abbrev both : ℕ → Complex
  both i = chips i ⊕ value c.args.b.now.re c.args.b.now.im i

pub returns-clause-real : goal.returns-clause-real
unfolding ◌⊕◌
returns-clause-real c =
    let s = (goal.at.returns-clause-real c).Start in
    let e = sums_are (λ z. z.re) (chips s) (λ z w. refl) (value c.args.b.now.re c.args.b.now.im) _ c.args.b.now.re c.sums-x.ensures (ap (λ (b : Block). b.re) c.block-c.ensures.chips) (λ i. refl) in
    put_part (λ (z : Complex). z.re) (both s) e _ _ c.requires.1 c.put.ensures

pub returns-clause-imaginary : goal.returns-clause-imaginary
unfolding ◌⊕◌
returns-clause-imaginary c =
    let s = (goal.at.returns-clause-imaginary c).Start in
    let e = sums_are (λ z. z.im) (chips s) (λ z w. refl) (value c.args.b.now.re c.args.b.now.im) _ c.args.b.now.im c.sums-y.ensures (ap (λ (b : Block). b.im) c.block-c.ensures.chips) (λ i. refl) in
    put_part (λ (z : Complex). z.im) (both s) e _ _ c.requires.2 c.put-2.ensures
