use Rattle.std.proofs.Common.{◌≡◌, ◌≤◌, length, get_or}
use lib.Dec.{ltb}
use Rattle.codes.specs.Range.{any}
use Rattle.tables.proofs.bits.has_byte_above_1.Given as goal

abbrev pub invariant-loop-bit : goal.invariant-loop-bit
invariant-loop-bit l = (l.bit-index ≤ length l.bits) × (l.found ≡ any l.bit-index (λ n. ltb 1 (get_or l.bits n 0)))
