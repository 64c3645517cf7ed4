use Prim.Native.Nat.{◌*◌, ◌≤◌}
use Rattle.find.specs.Searching.{at_least, Searched}
use Rattle.find.proofs.finding.Correlations.strongest.Given as goal

abbrev pub invariant-loop-k : goal.invariant-loop-k
invariant-loop-k l = (l.k ≤ l.n) × Searched l.self (at_least l.self l.least) (l.k * 32) l.best
