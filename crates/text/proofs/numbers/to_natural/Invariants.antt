-- The digits that are left, written after those of v, write the number of w.
use Rattle.std.proofs.Common.{◌≡◌, ◌≤◌, length, drop}
use Rattle.text.specs.Decimal.{natural_in}
use Rattle.text.proofs.Digits.{read_after}
use Rattle.text.proofs.numbers.to_natural.Given as goal

abbrev pub invariant-loop-b : goal.invariant-loop-b
invariant-loop-b l = (l.b-index ≤ length l.w) × (l.v ≤ 4294967295) × (natural_in l.w ≡ read_after l.v (drop l.b-index l.w))
