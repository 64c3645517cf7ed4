-- `set_leader` meets its contract. The loop's invariant: `leader` leads the candidates of the rows passed. Assumes nothing.
use mathlib.Core.Path.{◌≡◌, sym, subst}
use Prim.Native.Nat.{◌+◌, ◌*◌}
use native.Mathlib.Omega.{arith}
use Rattle.read_sync.specs.Searching.{LeadsFrom, score_by}
use Rattle.read_sync.proofs.Leaders.{leads_joined}
use Rattle.read_sync.proofs.sync_reading.Products.set_leader.Goals as goal

pub loop-q-preserved : goal.loop-q-preserved
loop-q-preserved c =
    let l = c.loop-q in
    let s = c.args.self.now in
    let next = leads_joined (score_by c.args.case s.re s.im) (32 * c.args.n) (8 * l.q) 8 l.leader c.row_leader.result l.invariant.2 c.row_leader.ensures in
    let e : 8 * l.q + 8 ≡ 8 * (l.q + 1) = omega arith in
    (omega arith, omega arith, subst (LeadsFrom c.args.case s.re s.im (32 * c.args.n) (8 * (l.q + 1))) (sym c.or_later-leader.ensures) (rw e at next))
