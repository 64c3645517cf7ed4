use Prim.Native.Nat.{◌*◌, ◌≤◌}
use Rattle.read_sync.specs.Searching.{LeadsFrom}
use Rattle.read_sync.proofs.sync_reading.Products.set_leader.Given as goal

abbrev pub invariant-loop-q : goal.invariant-loop-q
invariant-loop-q l = (1 ≤ l.q) × (l.q ≤ 4) × LeadsFrom l.case l.self.re l.self.im (32 * l.n) (8 * l.q) l.leader
