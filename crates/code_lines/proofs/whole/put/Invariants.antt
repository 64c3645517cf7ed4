-- Before chip 0 nothing is put; from then on it is known that chip 0 was given.
use Rattle.std.proofs.Common.{◌≡◌, ◌<◌, Ok}
use Rattle.complex.specs.declared.Complex.{Complex}
use Rattle.code_lines.proofs.whole.put.Given as goal

abbrev pub invariant-loop-i : goal.invariant-loop-i
invariant-loop-i g l = (l.i ≡ 0 → l.m ≡ l.initial.m) × (0 < l.i → (z : Complex) × goal.F-post g l.chip 0 (Ok z))
