use mathlib.Core.Bool.{Bool}
use Prim.Native.Nat.{ℕ, ◌≤◌}
use Rattle.find.specs.Searching.{Searched}
use Rattle.find.proofs.finding.Correlations.look.Given as goal

abbrev pub invariant-loop-i : goal.invariant-loop-i
invariant-loop-i l = record { start : l.from ≤ l.i; end : l.i ≤ l.end; searched : (c : ℕ → Bool) → Searched l.self c l.from l.initial.found → Searched l.self c l.i l.found }
