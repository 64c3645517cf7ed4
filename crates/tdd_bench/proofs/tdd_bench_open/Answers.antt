-- The refusal is the call's own. Assumes nothing.
use Rattle.std.proofs.Common.{◌∙◌}
use Rattle.bench.specs.BenchCalls.{open_call}
use Rattle.tdd_bench.proofs.Results.{answer_refusal}
use Rattle.tdd_bench.proofs.tdd_bench_open.Goals as goal

pub returns-clause-refusal : goal.returns-clause-refusal
returns-clause-refusal c = let s = c.args in c.call_result.ensures.refusal ∙ answer_refusal (open_call s.bench s.q s.k s.gain) c.«open».ensures.answer
