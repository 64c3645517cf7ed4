use mathlib.Core.Path.{◌≡◌}
use Prim.Native.Nat.{◌≤◌}
use Rattle.codes.specs.Range.{any}
use Rattle.tables.specs.OpenCodes.{clashes}
use Rattle.tables.proofs.gains.any_clash.Given as goal

abbrev pub invariant-loop-k2 : goal.invariant-loop-k2
invariant-loop-k2 l = (l.k2 ≤ l.q2) × (l.found ≡ any l.k2 (clashes l.gains l.q l.k l.q2))
