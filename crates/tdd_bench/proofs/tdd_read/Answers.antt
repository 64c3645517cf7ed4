-- The refusal is the call's own. Assumes nothing.
use Rattle.std.proofs.Common.{◌∙◌, length}
use Rattle.read.specs.Reading.{read_call}
use Rattle.tdd_bench.proofs.Results.{answer_refusal}
use Rattle.tdd_bench.proofs.tdd_read.Goals as goal

pub returns-clause-refusal : goal.returns-clause-refusal
returns-clause-refusal c =
    let s = c.args in
    c.number_or_0.ensures ∙ answer_refusal (read_call s.cell s.q s.k s.re.now s.im.now (length s.outre.now) (length s.outim.now)) c.read.ensures.answer
