-- `new` meets its contract: what the tests leave is what a field keeps. Assumes nothing.
use mathlib.Core.Path.{sym, ◌∙◌}
use mathlib.Core.Bool.{◌||◌, not}
use Prim.Native.Nat.{◌%◌}
use borrow.Author.Tests.{eqb-true, ltb-false, not-false}
use lib.Dec.{eqb, ltb}
use lib.ListN.{length}
use Rattle.codes.proofs.Tests.{neither}
use Rattle.analyser_parts.specs.Components.{outside}
use Rattle.analyser_parts.proofs.Ranges.{not_outside}
use Rattle.read.specs.Reading.{longest_field}
use Rattle.read.proofs.field.FieldChips.new.Goals as goal

pub invariant_of-result : goal.invariant_of-result
invariant_of-result c =
    let s = c.args in
    let n = length s.re.now in
    let whole = neither (eqb n 0 || ltb longest_field n) (not (eqb (n % 16) 0)) (sym c.is_no_field.ensures ∙ c.if-is_no_field.false) in
    let inside = neither (outside s.re.now) (outside s.im.now) (sym c.either_outside.ensures ∙ c.if-either_outside.false) in record {
      lengths = c.if-re-im.false;
      most = ltb-false longest_field n (neither (eqb n 0) (ltb longest_field n) whole.0).1;
      sixteens = eqb-true (n % 16) 0 (not-false (eqb (n % 16) 0) whole.1);
      re_bound = not_outside s.re.now inside.0;
      im_bound = not_outside s.im.now inside.1;
    }
