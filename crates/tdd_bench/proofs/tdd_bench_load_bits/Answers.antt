-- The refusal is the call's own. Assumes nothing.
use Rattle.std.proofs.Common.{◌∙◌}
use Rattle.bench.specs.BenchCalls.{load_bits_call}
use Rattle.tdd_bench.proofs.Results.{answer_refusal}
use Rattle.tdd_bench.proofs.tdd_bench_load_bits.Goals as goal

pub returns-clause-refusal : goal.returns-clause-refusal
returns-clause-refusal c = let s = c.args in c.call_result.ensures.refusal ∙ answer_refusal (load_bits_call s.bench s.q s.k s.bits.now) c.load_bits.ensures.answer
