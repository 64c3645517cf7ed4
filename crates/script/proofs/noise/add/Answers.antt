-- All of the part gets noise, or none. Assumes nothing.
use Rattle.std.proofs.Common.{◌≡◌, ◌+◌, ◌-◌, ◌<◌, length, Some, refl, arith}
use Rattle.script.proofs.NoisyParts.{ok_if, tried_more, added_none, added_more, added_all, takes_noise}
use Rattle.script.proofs.noise.add.Goals as goal
use Rattle.script.proofs.noise.add.Goals.{in-Some+in-Some-noisy, in-Some+in_default-noisy, in_default}

pub loop-i-preserved : goal.loop-i-preserved
loop-i-preserved c =
    let got : c.get.result ≡ Some c.in_ok-z.z = c.in_ok-z.ensures.ok_part in
    let gave : c.noisy.result ≡ Some c.in_ok-ok_or.field-0 = c.in_ok-ok_or.ensures.ok_part in
    tried_more c.args.m.now c.in_ok-start.field-0.start c.args.seed c.args.size c.loop-i.invariant (omega arith) (omega arith) (omega arith)
    (c.get.ensures.some.0 (rw got refl)) (rw got at c.get.ensures.value) (rw gave at c.noisy.ensures.state) (rw gave at c.noisy.ensures.result).0

pub loop-i-2-init : goal.loop-i-2-init
loop-i-2-init c = added_none _ _ _ _ (omega arith) c.new-generator.ensures

pub loop-i-2-preserved : goal.loop-i-2-preserved
loop-i-2-preserved c =
    let start = c.in_ok-start.field-0.start in
    let h = c.loop-i-2.invariant in
    let tried = c.loop-i.invariant.each (c.loop-i-2.i - start) (omega arith) in
    let re : start + (c.loop-i-2.i - start) < length c.args.m.now.recording.re = omega (arith, tried.0) in
    let im : start + (c.loop-i-2.i - start) < length c.args.m.now.recording.im = omega (arith, tried.0) in
    elim c.match-get.branch [
      | in-Some+in-Some-noisy w ↦ rw (w.m-is, w.generator-is)
          (added_more c.args.m.now start c.args.seed c.args.size h (omega arith) (omega arith) re im w.in-Some.ensures.value
          (record c.loop-i-2.m { recording = w.set.new.self }) (omega arith) w.in-Some-noisy.ensures.state w.in-Some-noisy.ensures.result.1 w.set.ensures.re w.set.ensures.im refl refl refl)
      | in-Some+in_default-noisy w ↦ absurd
          (w.in_default-noisy.ensures.result (takes_noise c.args.m.now start c.args.seed c.args.size h (omega arith) (omega arith) re im w.in-Some.ensures.value tried.1))
      | in_default w ↦ absurd (cc (rw w.in_default.is at (c.get-in-loop-i-2.ensures.some.1 (omega (arith, tried.0)))))
    ]

pub returns-clause-ok : goal.returns-clause-ok
returns-clause-ok c =
    let is = ok_if _ _ _ c.in_ok-start.ensures in
    let start_is : c.in_ok-start.field-0.start ≡ c.args.part.from = rw is refl in
    let end_is : c.in_ok-start.field-0.end ≡ c.args.part.from + c.args.part.count = rw is refl in
    added_all _ _ _ _ c.loop-i-2.invariant start_is (omega arith)
