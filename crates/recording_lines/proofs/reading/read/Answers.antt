-- A read that is refused leaves the memory. Assumes nothing.
use Rattle.std.proofs.Common.{◌≡◌, ℕ, length}
use Rattle.std.proofs.lemmas.Result.{MatchResult-from_err}
use Rattle.codes.specs.Refusals.{Answer, refused, gives, outcome, after}
use Rattle.read.specs.Reading.{read_call}
use Rattle.recording_lines.proofs.reading.read.Goals as goal

-- a buffer after a call that was refused
left : {A B : Type 0} (a : Answer A) {k : ℕ} {new old : B} (f : A → B) → refused k ≡ outcome a → new ≡ after a old f → new ≡ old
left (refused j) f e h = h
left (gives x) f e h = cc

pub returns-in_err-read : goal.returns-in_err-read
returns-in_err-read c =
    let s = c.args in
    let a = read_call s.cell.0 s.q s.k c.in_ok-re.re.now c.in_ok-re.im.now (length s.m.now.readings.re) (length s.m.now.readings.im) in
    let read = c.in_err-read.ensures in
    let re : c.read.new.outre ≡ s.m.now.readings.re = left a _ read.answer read.real in
    let im : c.read.new.outim ≡ s.m.now.readings.im = left a _ read.answer read.imaginary in
    MatchResult-from_err _ _ _ c.from_residual-in_err-read.ensures.0 (λ y j. record s.m.now { readings = record { re = re j; im = im j } })
