-- A field's chips, as the structs `Sender` and `Field` have what they are made from. Nothing here is document 01's.
use Rattle.std.specs.Prelude.{ℕ}
use Rattle.complex.specs.declared.Complex.{Complex}
use Rattle.slot.specs.declared.field.Field.{Field}
use Rattle.slot.specs.declared.field.Sender.{Sender}
use Rattle.slot.specs.FieldBlocks.{chip_by_blocks}

-- chip q of the field, with the burst's
abbrev pub sent_chip : Sender → Field → ℕ → Complex
sent_chip s field q = chip_by_blocks s.data.gains.now s.data.pairs.now s.cell.0 s.sync s.data.signs.re s.data.signs.im field.before field.start q
