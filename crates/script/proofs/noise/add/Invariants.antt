-- What the two loops of `add` keep: of the chips before this one, that they can take their noise, and that they have it.
use Rattle.std.proofs.Common.{◌-◌}
use Rattle.script.proofs.NoisyParts.{Tried, Added}
use Rattle.script.proofs.noise.add.Given as goal

abbrev pub invariant-loop-i : goal.invariant-loop-i
invariant-loop-i l = Tried l.m l.start l.seed l.size (l.i - l.start) l.trial.state

abbrev pub invariant-loop-i-2 : goal.invariant-loop-i-2
invariant-loop-i-2 l = Added l.initial.m l.start l.seed l.size (l.i - l.start) l.generator.state l.m
