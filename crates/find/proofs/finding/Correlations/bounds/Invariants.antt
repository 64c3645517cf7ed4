use mathlib.Core.Path.{◌≡◌}
use Prim.Native.Nat.{◌/◌, ◌≤◌}
use lib.ListN.{length}
use Rattle.find.specs.PeakSearch.{Bounded}
use Rattle.find.specs.Searching.{size_at, starts}
use Rattle.find.proofs.finding.Correlations.bounds.Given as goal

abbrev pub invariant-loop-k : goal.invariant-loop-k
invariant-loop-k l = record { block : l.k ≤ starts l.self / 32; whole : length l.bound-items ≡ starts l.self / 32; bounded : Bounded (size_at l.self) l.k l.bound-items }
