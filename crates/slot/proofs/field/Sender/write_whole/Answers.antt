-- `write_whole` meets its contract: the block's chips, put from its first on. Assumes nothing.
use mathlib.Core.Path.{ap}
use Rattle.complex.specs.declared.Complex.{Complex}
use Rattle.complex.specs.declared.Block.{Block}
use Rattle.modulation.specs.Modulated.{modulated_chip}
use Rattle.slot.proofs.Pieces.{put_all}
use Rattle.slot.proofs.field.Sender.write_whole.Goals as goal

pub returns-clause-real : goal.returns-clause-real
returns-clause-real c = put_all (λ (z : Complex). z.re) (modulated_chip c.args.self.now.data c.args.from) (ap (λ (b : Block). b.re) c.block-c.ensures.chips) _ c.requires.1 c.put.ensures

pub returns-clause-imaginary : goal.returns-clause-imaginary
returns-clause-imaginary c = put_all (λ (z : Complex). z.im) (modulated_chip c.args.self.now.data c.args.from) (ap (λ (b : Block). b.im) c.block-c.ensures.chips) _ c.requires.2 c.put-2.ensures
