-- `all` meets its contract. The loop's invariant: the bits of the readings passed are written. Assumes nothing.
use mathlib.Core.Path.{◌≡◌, refl, ap, ◌∙◌}
use mathlib.Core.List.{List}
use Prim.Native.Nat.{ℕ, ◌+◌, ◌*◌, ◌/◌, ◌%◌}
use native.Mathlib.Omega.{arith}
use lib.ListN.{length, set, length-set}
use Rattle.complex.specs.declared.Complex.{Complex}
use Rattle.complex.specs.Buffers.{listed, value, written}
use Rattle.complex.proofs.Lists.{one_more_written}
use Rattle.harden.specs.Hardening.{hard_bit, hard_pair}
use Rattle.harden.proofs.Pairs.{first_bit, second_bit}
use Rattle.harden.proofs.hardening.all.Goals as goal

pub loop-n-init : goal.loop-n-init
unfolding listed
loop-n-init c = (omega arith, refl, refl)

pub loop-n-preserved : goal.loop-n-preserved
loop-n-preserved c =
    let l = c.loop-n in
    let s = c.args in
    let y = value s.re.now s.im.now in
    let d = s.bits.now in
    let first : c.first_bit.result ≡ hard_bit y (2 * l.n) = c.first_bit.ensures ∙ ap (λ (z : Complex). hard_pair z / 2) c.value_at-y.ensures ∙ first_bit y l.n in
    let second : c.second_bit.result ≡ hard_bit y (2 * l.n + 1) = c.second_bit.ensures ∙ ap (λ (z : Complex). hard_pair z % 2) c.value_at-y.ensures ∙ second_bit y l.n in
    let e : 2 * l.n + 1 + 1 ≡ 2 * (l.n + 1) = omega arith in (
      omega arith,
      simp length-set l.invariant.1,
      (λ j. set (set (l.invariant.2 j) (2 * l.n) (first j)) (2 * l.n + 1) (second j))
          ∙ ap (λ (t : List ℕ). set t (2 * l.n + 1) (hard_bit y (2 * l.n + 1))) (one_more_written (hard_bit y) d (2 * l.n) (omega arith))
          ∙ one_more_written (hard_bit y) d (2 * l.n + 1) (omega arith)
          ∙ ap (λ (k : ℕ). written (listed k (hard_bit y)) d) e,
    )

pub returns : goal.returns
returns c =
    let e : c.loop-n.n ≡ length c.args.re.now = omega arith in
    rw e at c.loop-n.invariant.2
