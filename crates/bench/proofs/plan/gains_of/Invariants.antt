-- The records from `place` on, after those passed, come to what all of them come to. Assumes nothing.
use Rattle.std.proofs.Common.{◌≡◌, drop}
use Rattle.bench.specs.Plans.{gains_from, gains_of}
use Rattle.bench.proofs.plan.gains_of.Given as goal

abbrev pub invariant-loop-place : goal.invariant-loop-place
invariant-loop-place l = gains_from l.place l.gains (drop l.place l.plan) ≡ gains_of l.plan
