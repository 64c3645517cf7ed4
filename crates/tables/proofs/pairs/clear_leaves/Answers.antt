-- `clear_leaves` meets its contract. The loops' invariant: the entries passed are kept or cleared, by their leaf. Assumes nothing.
use Rattle.std.proofs.Common.{rules}
use mathlib.Core.Path.{◌≡◌}
use Prim.Native.Nat.{◌+◌, ◌*◌, ◌%◌}
use native.Mathlib.Nat.{add-zero}
use native.Mathlib.Omega.{arith}
use lib.ListN.{get_or, length-set}
use Rattle.tables.specs.PairChanges.{cleared}
use Rattle.tables.proofs.Entries.{all_entries, none_passed, one_more_passed, all_passed}
use Rattle.tables.proofs.pairs.clear_leaves.Invariants.{kept}
use Rattle.tables.proofs.pairs.clear_leaves.Goals as goal

pub loop-m-init : goal.loop-m-init
loop-m-init c = (omega arith, search rules, none_passed _ _)

pub loop-i-init : goal.loop-i-init
loop-i-init c = (omega arith, c.loop-m.invariant.1, λ old b. rw (add-zero (16 * c.loop-m.m)) b)

pub loop-i-preserved : goal.loop-i-preserved
loop-i-preserved c =
    let l = c.loop-i in
    let n = 16 * c.loop-m.m + l.i in
    let e : n % 16 ≡ l.i = omega arith in
    let next : n + 1 ≡ 16 * c.loop-m.m + (l.i + 1) = omega arith in
    let leaves = c.args.leaves.now in
    let x : c.kept.result ≡ kept leaves n (get_or l.all n 0) = rw e c.kept.ensures in (
      omega arith,
      simp length-set l.invariant.1,
      λ old b. rw next at (one_more_passed (kept leaves) n (omega arith) l.invariant.1 x (l.invariant.2 old b)),
    )

pub loop-m-preserved : goal.loop-m-preserved
loop-m-preserved c =
    let l = c.loop-i in
    let e : 16 * c.loop-m.m + l.i ≡ 16 * (c.loop-m.m + 1) = omega arith in
    (omega arith, l.invariant.1, rw e at (l.invariant.2 _ c.loop-m.invariant.2))

pub returns : goal.returns
unfolding cleared
returns c =
    let l = c.loop-m in
    let e : 16 * l.m ≡ 2208 = omega arith in
    (all_entries l.invariant.1 (all_passed _ (rw e at l.invariant.2)), search rules)
