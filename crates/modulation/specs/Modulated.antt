-- A slot's data chips, as the struct `Modulator` has what they are made from. Nothing here is document 01's.
use Rattle.std.specs.Prelude.{ℕ}
use Rattle.complex.specs.declared.Complex.{Complex}
use Rattle.modulation.specs.declared.data.Modulator.{Modulator}
use Rattle.modulation.specs.SixteenChips.{block_chip}

-- chip c of the block whose pairs stand from `from` on
abbrev pub modulated_chip : Modulator → ℕ → ℕ → Complex
modulated_chip m from c = block_chip m.gains.now m.pairs.now from m.signs.re m.signs.im c
