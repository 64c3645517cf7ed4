-- The bits are loaded where the tests passed. Assumes nothing.
use Rattle.std.proofs.Common.{refl, ◌∙◌}
use Rattle.slot.specs.View.{view}
use Rattle.bench.specs.BenchCalls.{load_bits_refusals}
use Rattle.bench.proofs.Accepted.{accepts, call_accepted, all_passed, call_refused, refuses, same_code}
use Rattle.bench.proofs.Loading.{load_passed}
use Rattle.bench.proofs.Bench.load_bits.Goals as goal
use Rattle.bench.proofs.Bench.load_bits.Goals.{in-Ok, in_default}

pub set_bits-requires : goal.set_bits-requires
set_bits-requires c =
    let a = c.args in
    let v = view a.self.settings in
    load_passed v a.q a.k a.bits.now (all_passed _ (load_bits_refusals v a.q a.k a.bits.now) (c.in-Ok.ensures a.self.settings refl refl)).0

pub returns : goal.returns
returns c =
    let b = c.args.self in
    let Q = c.args.q in
    let k = c.args.k in
    let tests = load_bits_refusals (view b.settings) Q k c.args.bits.now in
    elim c.match-checked.branch [
      | in-Ok w ↦
          let e = w.in-Ok.ensures b.settings refl refl in
          let q = same_code tests w.in-Ok.code Q k e in
          let done = call_accepted (Q, k) tests b _ e in
          record {
            answer = rw (accepts c.map.result (rw w.checked-is at c.map.ensures.variant)) done.0;
            bench = rw (c.with_tables.ensures, w.pairs-is, w.set_bits.ensures, q.0, q.1) done.1;
          }
      | in_default w ↦
          let done = call_refused (Q, k) tests b _ (w.in_default.ensures b.settings refl refl) in
          let refusal = refuses _ c.map.result w.in_default.field-0 (w.checked-is ∙ w.in_default.is) c.map.ensures.cases in
          record { answer = rw refusal done.0; bench = rw (c.with_tables.ensures, w.pairs-is) done.1 }
    ]
