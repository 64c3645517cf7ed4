use mathlib.Core.Bool.{true}
use Prim.Native.Nat.{◌≤◌}
use lib.ListN.{length}
use Rattle.complex.specs.Buffers.{◌at◌}
use Rattle.find.specs.PeakSearch.{PeaksBelow}
use Rattle.find.proofs.finding.highest.Given as goal

abbrev pub invariant-loop-at : goal.invariant-loop-at
invariant-loop-at l = (l.at ≤ length l.bounds) × PeaksBelow (◌at◌ l.bounds) (λ j. true) (length l.bounds) l.at l.top
