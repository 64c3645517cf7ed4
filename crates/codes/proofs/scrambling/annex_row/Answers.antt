-- `annex_row` meets its contract. Assumes nothing.
use native.Mathlib.Omega.{arith}
use Rattle.codes.proofs.Rows.{no_row}
use Rattle.codes.proofs.scrambling.annex_row.Goals as goal

pub returns-in_default : goal.returns-in_default
returns-in_default c = rw (no_row c.args.cell.0 (omega arith))
