-- What load plan ensures, as its callers may take it: made here of the `ensures` in the source (`clauses`). It makes the same claims as the toolchain's own
-- `Reads` of the function, and knows less of the arguments.
use Rattle.std.specs.Prelude.{refl, List}
use base.Logic.{emp}
use borrow.Fn.Claims.{AllOf}
use borrow.Fn.Read.{Read, r_last, r_fact, all_models, no_know}
use borrow.Fn.World.{World, Pr}
use contract.Lifetimes.{Lfts}
use Rattle.std.specs.Borrow.{Bor}
use denote.Triple.Clauses.{AtExit}
use Rattle.bench.specs.declared.Bench.{Bench}
use Rattle.bench.specs.declared.Channel.{Channel}
use Rattle.bench.specs.declared.Answered.{Answered}
use Rattle.bench.specs.declared.PlanRefusal.{PlanRefusal}
use Rattle.bench.specs.contracts.Bench.load_plan.{clauses, ended}

module _ (κs : Lfts 1) (given : Bench × (Bor (List Channel) × Unit {0})) (r : Answered (Unit {0}) PlanRefusal) (e : AtExit ended κs) where
  abbrev ensures_of : (w : World) → Pr w
  ensures_of w = (clauses w.𝓛 w.𝓜.mem w.𝓡.run κs given).ensures tt r e

  abbrev reads : Read (λ w. emp w.𝓤) no_know ensures_of
  reads = all_models ensures_of (λ w. r_fact _ _ (r_last _)) (λ w. refl) (λ w. refl) (λ w. refl)

  abbrev pub Learnt : Type 0
  Learnt = AllOf reads.tells
