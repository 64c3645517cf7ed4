-- The refusal is the call's own. Assumes nothing.
use Rattle.std.proofs.Common.{◌∙◌}
use Rattle.bench.specs.BenchCalls.{close_call}
use Rattle.tdd_bench.proofs.Results.{answer_refusal}
use Rattle.tdd_bench.proofs.tdd_bench_close.Goals as goal

pub returns-clause-refusal : goal.returns-clause-refusal
returns-clause-refusal c = let s = c.args in c.call_result.ensures.refusal ∙ answer_refusal (close_call s.bench s.q s.k) c.close.ensures.answer
