-- The gains that a plan's records make, as the functions hold them. Nothing here is document 01's: the contracts of the bench's calls do not name it.
use Rattle.std.specs.Prelude.{ℕ, suc, Result, Ok, Err, List, [], ◌∷◌, replicate, set}
use Rattle.codes.specs.Answers.{number_of}
use Rattle.codes.specs.Refusals.{Answer, refused, gives, ◌otherwise◌}
use Rattle.modulation.specs.Nodes.{node}
use Rattle.slot.specs.View.{view}
use Rattle.tables.specs.PairChanges.{with_open_cleared}
use Rattle.bench.specs.declared.Bench.{Bench}
use Rattle.bench.specs.declared.Channel.{Channel}
use Rattle.bench.specs.declared.PlanRefusal.{PlanRefusal}
use Rattle.bench.specs.BenchCalls.{AnswerAt, refused_at, loads, fresh_settings, open_refusals}
use Rattle.bench.specs.Changes.{with_gains, with_pairs, with_settings}

-- the gains after record c, or open's refusal where these gains are set: no other setting counts
abbrev pub gains_after : List ℕ → Channel → Answer (List ℕ)
gains_after g c = open_refusals (view (with_gains fresh_settings g)) c.q c.k c.gain otherwise set g (node c.q c.k) c.gain

-- record after record, the first of them at `place`
unfoldable pub gains_from : ℕ → List ℕ → List Channel → AnswerAt (List ℕ)
gains_from place g [] = loads g
gains_from place g (c ∷ cs) = elim (gains_after g c) [ refused n ↦ refused_at n place | gives next ↦ gains_from (suc place) next cs ]

-- from closed codes on
abbrev pub gains_of : List Channel → AnswerAt (List ℕ)
gains_of plan = gains_from 0 (replicate 31 0) plan

-- what the function's result stands for
abbrev pub answer_of_gains : Result (List ℕ) PlanRefusal → AnswerAt (List ℕ)
answer_of_gains (Ok g) = loads g
answer_of_gains (Err r) = refused_at (number_of r.refusal) r.place

-- the bench once the codes of these gains were opened, with every code closed before
abbrev pub with_opened : Bench → List ℕ → Bench
with_opened b g = let s = b.settings in with_settings b (with_pairs (with_gains s g) (with_open_cleared g s.pairs))
