-- `new` gives a recording: the tests that passed are its fields' facts. Assumes nothing.
use mathlib.Core.Path.{sym}
use Rattle.codes.proofs.Tests.{neither}
use Rattle.analyser_parts.specs.Components.{outside}
use Rattle.analyser_parts.proofs.Ranges.{not_outside}
use Rattle.find.proofs.finding.Recording.new.Goals as goal

pub invariant_of-result-clause-re_small : goal.invariant_of-result-clause-re_small
invariant_of-result-clause-re_small c = not_outside _ (neither (outside c.args.re.now) (outside c.args.im.now) (sym (c.if-either_outside.ensures))).0

pub invariant_of-result-clause-im_small : goal.invariant_of-result-clause-im_small
invariant_of-result-clause-im_small c = not_outside _ (neither (outside c.args.re.now) (outside c.args.im.now) (sym (c.if-either_outside.ensures))).1
