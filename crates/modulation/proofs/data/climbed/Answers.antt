-- `climbed` meets its contract: a round, and the level's own codes where one is open. Assumes nothing.
use mathlib.Core.Path.{sym, ◌∙◌}
use native.Mathlib.Omega.{arith}
use Rattle.complex.proofs.Bounds.{bound_more}
use Rattle.modulation.proofs.Levels.{a_factor, raised_bound, nothing_added, round_with_own}
use Rattle.modulation.proofs.data.climbed.Goals as goal

pub with_own-y-requires : goal.with_own-y-requires
with_own-y-requires c = (c.requires.1, raised_bound c.requires.2 _ c.raised-y.ensures)

pub returns-then-any_open : goal.returns-then-any_open
returns-then-any_open c =
    record { entries = c.with_own-y.ensures.entries ∙ round_with_own _ _ _ _ _ c.raised-y.ensures; size = λ k m h. c.with_own-y.ensures.size _ (omega arith) (raised_bound h _ c.raised-y.ensures) }

pub returns-else-any_open : goal.returns-else-any_open
returns-else-any_open c =
    record { entries = c.raised-y.ensures ∙ nothing_added _ _ _ _ (a_factor c.args.level) (sym c.requires.0 ∙ c.if-any_open.false); size = λ k m h. bound_more (raised_bound h _ c.raised-y.ensures) _ (omega arith) }
