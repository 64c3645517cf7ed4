-- What stands is inside the room. Assumes nothing.
use Rattle.std.proofs.Common.{◌≤◌, length}
use Rattle.setting_lines.proofs.bits.repeat.Given as goal

abbrev pub invariant-loop : goal.invariant-loop
invariant-loop l = l.done ≤ length l.bits
