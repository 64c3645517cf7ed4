-- `leader` meets its contract. The loop's invariant: `leader` leads the candidates of the sets passed. Assumes nothing.
use mathlib.Core.Path.{◌≡◌, sym, subst}
use Prim.Native.Nat.{ℕ, ◌+◌, ◌*◌}
use native.Mathlib.Omega.{arith}
use Rattle.read_sync.specs.Searching.{LeadsFrom, score_by}
use Rattle.read_sync.proofs.Leaders.{leads_joined}
use Rattle.read_sync.proofs.sync_reading.Products.leader.Goals as goal

pub loop-n-preserved : goal.loop-n-preserved
loop-n-preserved c =
    let l = c.loop-n in
    let s = c.args.self.now in
    let start : 0 + 32 * l.n ≡ 32 * l.n = omega arith in
    let set = subst (λ (x : ℕ). LeadsFrom c.args.case s.re s.im x 32 c.set_leader.result) (sym start) c.set_leader.ensures in
    let next = leads_joined (score_by c.args.case s.re s.im) 0 (32 * l.n) 32 l.leader c.set_leader.result l.invariant.2 set in
    let e : 32 * l.n + 32 ≡ 32 * (l.n + 1) = omega arith in
    (omega arith, omega arith, subst (LeadsFrom c.args.case s.re s.im 0 (32 * (l.n + 1))) (sym c.or_later-leader.ensures) (rw e at next))
