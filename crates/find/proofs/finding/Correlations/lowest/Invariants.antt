use lib.ListN.{length}
use Rattle.find.specs.PeakSearch.{Covers}
use Rattle.find.proofs.finding.Correlations.lowest.Given as goal

abbrev pub invariant-loop-x : goal.invariant-loop-x
invariant-loop-x l = Covers l.self.re.now l.self.im.now l.from (length l.yielded) l.low
