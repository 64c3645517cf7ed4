-- A load that is refused hands back the bench. Assumes nothing.
use Rattle.bench.specs.BenchCalls.{load_bits_call}
use Rattle.setting_lines.proofs.Refused.{stays}
use Rattle.setting_lines.proofs.load_bits.Goals as goal

pub returns : goal.returns
returns c =
    let s = c.args in
    stays _ (load_bits_call s.b s.q s.k c.put.result.now) _ s.b c.load_bits.ensures.answer c.load_bits.ensures.bench
