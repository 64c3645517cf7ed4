use Prim.Native.Nat.{◌+◌, ◌*◌, ◌≤◌}
use Rattle.complex.specs.Buffers.{value, ◌at◌}
use Rattle.read.specs.Multipliers.{HasLanes}
use Rattle.read.proofs.sixteen.Lanes.put.Given as goal

abbrev pub invariant-loop-l : goal.invariant-loop-l
invariant-loop-l l =
    (l.l ≤ 4)
    × (HasLanes (◌at◌ l.signs.signs) (value l.field.re.now l.field.im.now) (4 * l.m) l.initial.self.re l.initial.self.im
    → HasLanes (◌at◌ l.signs.signs) (value l.field.re.now l.field.im.now) (4 * l.m + l.l) l.self.re l.self.im)
