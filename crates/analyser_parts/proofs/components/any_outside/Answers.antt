-- `any_outside` meets its contract. The loop's invariant: what was found, or what the rest has, is what the whole list has. Assumes nothing.
use mathlib.Core.Path.{◌≡◌, sym, ap, ◌∙◌}
use mathlib.Core.Bool.{Bool, ◌||◌, not}
use Prim.Native.Nat.{◌+◌}
use borrow.Author.Rules.{rules}
use lib.IntN.{pos}
use lib.ListN.{get_or, drop}
use mir.Syntax.{w32}
use mir.Val.{to_z, of_z}
use mir.Facts.{to_z-of_z}
use Rattle.analyser_parts.specs.Components.{in_range, outside}
use Rattle.analyser_parts.proofs.Ranges.{scan_more, scan_end}
use Rattle.analyser_parts.proofs.components.any_outside.Goals as goal

pub loop-c-preserved : goal.loop-c-preserved
loop-c-preserved c =
    let l = c.loop-c in
    let x = c.args.x.now in
    let z = get_or x l.c-index (pos 0) in
    let same : to_z w32 (of_z w32 z) ≡ z = to_z-of_z {w = w32} (search rules) in
    let tested : c.is_in_range.result ≡ in_range z = c.is_in_range.ensures ∙ ap in_range same in
    ap (λ (b : Bool). (l.found || not b) || outside (drop (l.c-index + 1) x)) tested ∙ scan_more l.found x l.c-index c.loop-c-test.true ∙ l.invariant

pub returns : goal.returns
returns c = sym (scan_end c.loop-c.found c.args.x.now c.loop-c.c-index c.loop-c-test.false) ∙ c.loop-c.invariant
