use mathlib.Core.Path.{◌≡◌}
use Prim.Native.Nat.{◌≤◌}
use Rattle.read_sync.specs.Shares.{sum_with_signs}
use Rattle.read_sync.proofs.sums.signed_sum.Given as goal

abbrev pub invariant-loop-i : goal.invariant-loop-i
invariant-loop-i g l = (l.i ≤ g.row.N) × (l.s ≡ sum_with_signs l.i l.x l.from l.row l.at)
