use Prim.Native.Nat.{◌*◌, ◌≤◌}
use Rattle.complex.specs.Buffers.{value, ◌at◌}
use Rattle.read.specs.Multipliers.{HasLanes}
use Rattle.read.proofs.sixteen.Lanes.new.Given as goal

abbrev pub invariant-loop-m : goal.invariant-loop-m
invariant-loop-m l =
    (l.m ≤ l.m-end) × HasLanes (◌at◌ l.signs.signs) (value l.field.re.now l.field.im.now) (4 * l.m) l.lanes.re l.lanes.im
