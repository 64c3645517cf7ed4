use mathlib.Core.Path.{◌≡◌}
use mathlib.Core.Bool.{◌||◌}
use lib.ListN.{drop}
use Rattle.analyser_parts.specs.Components.{outside}
use Rattle.analyser_parts.proofs.components.any_outside.Given as goal

abbrev pub invariant-loop-c : goal.invariant-loop-c
invariant-loop-c l = (l.found || outside (drop l.c-index l.x)) ≡ outside l.x
