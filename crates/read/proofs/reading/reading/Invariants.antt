use mathlib.Core.Path.{◌≡◌}
use Prim.Native.Nat.{◌≤◌}
use Rattle.complex.specs.Buffers.{value}
use Rattle.read.specs.Multipliers.{multiplied_sum}
use Rattle.read.proofs.reading.reading.Given as goal

abbrev pub invariant-loop-i : goal.invariant-loop-i
invariant-loop-i l = (l.i ≤ l.q) × l.sum ≡ multiplied_sum (value l.field.re.now l.field.im.now) (value l.w.re l.w.im) l.from l.i
