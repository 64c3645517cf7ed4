use Prim.Native.Nat.{◌*◌, ◌≤◌}
use Rattle.read_sync.specs.Cases.{set_count}
use Rattle.read_sync.specs.Searching.{LeadsFrom}
use Rattle.read_sync.proofs.sync_reading.Products.leader.Given as goal

abbrev pub invariant-loop-n : goal.invariant-loop-n
invariant-loop-n l = (1 ≤ l.n) × (l.n ≤ set_count l.case) × LeadsFrom l.case l.self.re l.self.im 0 (32 * l.n) l.leader
