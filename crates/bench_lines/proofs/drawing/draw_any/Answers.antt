-- `draw_any` meets its contract: draw's own, by the laws of lengths. Assumes nothing.
use Rattle.std.proofs.Common.{◌≡◌, refl, ap, ◌∙◌, arith, length-take-le, ne_eqb}
use Rattle.bench.specs.BenchCalls.{draw_call}
use Rattle.bench_lines.proofs.Draws.{unequal, no_more, relent}
use Rattle.bench_lines.proofs.drawing.draw_any.Goals as goal

pub returns-then-n-m : goal.returns-then-n-m
returns-then-n-m c =
    let s = c.args in
    let e = ne_eqb s.n s.m c.if-n-m.true in
    let d = c.draw.ensures in
    let r = relent s.b s.n s.m 0 1 s.re.now s.im.now refl (length-take-le 1 s.im.now (omega (arith, c.told-im))) (unequal s.b 0 1 s.n s.m refl e) (d.answer, (d.bench, (d.real, d.imaginary))) in
    record { answer = r.0; bench = r.1.0; real = r.1.1.0; imaginary = r.1.1.1 }

pub returns : goal.returns
returns c =
    let s = c.args in
    let n = c.min-count.result in
    let same : s.n ≡ s.m = c.if-n-m.false in
    let d = c.draw-2.ensures in
    let r = relent s.b s.n s.m n n s.re.now s.im.now (length-take-le n s.re.now (omega (arith, c.min-count.ensures, c.told-re))) (length-take-le n s.im.now (omega (arith, c.min-count.ensures, c.told-im)))
    (rw c.min-count.ensures (no_more s.b s.n ∙ ap (draw_call s.b s.n) same)) (d.answer, (d.bench, (d.real, d.imaginary))) in
    record { answer = r.0; bench = r.1.0; real = r.1.1.0; imaginary = r.1.1.1 }
