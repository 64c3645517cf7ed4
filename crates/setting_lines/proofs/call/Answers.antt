-- A call that is refused hands back the bench that it was given. Assumes nothing.
use Rattle.bench.specs.BenchCalls.{set_cell_call, open_call, close_call, set_gain_call, set_sync_call, clear_sync_call, start_call}
use Rattle.setting_lines.proofs.Refused.{handed_back, on_err, stays}
use Rattle.setting_lines.proofs.call.Goals as goal
use Rattle.setting_lines.proofs.call.Goals.{in-LoadBits+in_ok-of-in-LoadBits, in-SetCell, in-Open, in-Close, in-SetGain, in-SetSync, in-ClearSync, in-Start}

pub returns-in_err-answer : goal.returns-in_err-answer
returns-in_err-answer c =
    let e = c.in_err-answer.was in
    let b = c.args.b.now in
    on_err _ (elim c.match-call.branch [
      | in-LoadBits+in_ok-of-in-LoadBits w ↦ handed_back w.answer-is e w.load_bits.ensures
      | in-SetCell w ↦ handed_back w.answer-is e (stays _ (set_cell_call b w.in-SetCell.cell w.in-SetCell.kind) _ b w.set_cell.ensures.answer w.set_cell.ensures.bench)
      | in-Open w ↦ handed_back w.answer-is e (stays _ (open_call b w.in-Open.q w.in-Open.k w.in-Open.gain) _ b w.open.ensures.answer w.open.ensures.bench)
      | in-Close w ↦ handed_back w.answer-is e (stays _ (close_call b w.in-Close.q w.in-Close.k) _ b w.close.ensures.answer w.close.ensures.bench)
      | in-SetGain w ↦ handed_back w.answer-is e (stays _ (set_gain_call b w.in-SetGain.q w.in-SetGain.k w.in-SetGain.gain) _ b w.set_gain.ensures.answer w.set_gain.ensures.bench)
      | in-SetSync w ↦ handed_back w.answer-is e (stays _ (set_sync_call b w.in-SetSync.case w.in-SetSync.frame w.in-SetSync.half w.in-SetSync.gp w.in-SetSync.gs) _ b w.set_sync.ensures.answer w.set_sync.ensures.bench)
      | in-ClearSync w ↦ handed_back w.answer-is e (stays _ (clear_sync_call b) _ b w.clear_sync.ensures.answer w.clear_sync.ensures.bench)
      | in-Start w ↦ handed_back w.answer-is e (stays _ (start_call b) _ b w.start.ensures.answer w.start.ensures.bench)
    ])
