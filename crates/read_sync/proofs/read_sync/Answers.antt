-- `read_sync` meets its contract: its refusals, or the candidate that leads alone. Assumes nothing.
use mathlib.Core.Path.{◌≡◌, sym, ap, ◌∙◌}
use mathlib.Core.Bool.{not}
use mathlib.Core.List.{List, [], ◌∷◌}
use native.Mathlib.Omega.{arith}
use borrow.Author.Tests.{eq-eqb, ne_eqb}
use lib.IntN.{ℤ}
use Rattle.complex.specs.Buffers.{value}
use Rattle.codes.specs.Refusals.{gives, ◌if◌}
use Rattle.codes.specs.Allocation.{one_or_two}
use Rattle.codes.proofs.Refused.{Passed, gives_passed, gives_value}
use Rattle.read_sync.specs.SyncReading.{candidate, candidate_count, winner}
use Rattle.read_sync.specs.Cases.{case_number, chip_refusals}
use Rattle.read_sync.proofs.Leading.{leads_is, leads_none}
use Rattle.read_sync.proofs.read_sync.Goals as goal
use Rattle.read_sync.proofs.read_sync.Goals.{After-leader-leader}

module _ (c : After-leader-leader) where
  abbrev re : List ℤ
  re = c.args.re.now

  abbrev im : List ℤ
  im = c.args.im.now

  -- what the tests leave
  case_passed : Passed (14 if not (one_or_two c.args.case) ∷ [])
  case_passed = gives_passed _ _ (14 if not (one_or_two c.args.case) ∷ []) c.in_ok-case.ensures

  chips_passed : Passed (chip_refusals re im)
  chips_passed = gives_passed _ _ (chip_refusals re im) c.in_ok-new.ensures

  case_is : case_number c.in_ok-case.case ≡ c.args.case
  case_is = gives_value _ _ (14 if not (one_or_two c.args.case) ∷ []) c.in_ok-case.ensures

  chips_are : ◌≡◌ {A = List ℤ × List ℤ} (c.in_ok-new.field-0.re.now, c.in_ok-new.field-0.im.now) (re, im)
  chips_are = gives_value _ _ (chip_refusals re im) c.in_ok-new.ensures

  winner_is : winner (case_number c.in_ok-case.case) (value c.in_ok-new.field-0.re.now c.in_ok-new.field-0.im.now) ≡ winner c.args.case (value re im)
  winner_is = λ i. winner (case_is i) (value (chips_are i).0 (chips_are i).1)

pub returns-then-leader : goal.returns-then-leader
returns-then-leader c =
    let place = (goal.at.returns-then-leader c).After-leader-leader in
    let p = chips_passed place in
    let n = case_is place in
    let w = sym (winner_is place) ∙ leads_is _ _ _ c.leader-leader.ensures c.if-leader.true in
    let count = ap candidate_count n in
    let some = ne_eqb (winner c.args.case (value (re place) (im place))) (candidate_count c.args.case) (λ z. absurd (omega (arith, c.leader-leader.ensures.below, count, sym w ∙ z))) in
    rw ((case_passed place).0, p.0, p.1.0, p.1.1.0, some) (ap gives (c.candidate.ensures ∙ (λ i. candidate (n i) (sym w i))))

pub returns-else-leader : goal.returns-else-leader
returns-else-leader c =
    let place = (goal.at.returns-else-leader c).After-leader-leader in
    let p = chips_passed place in
    let w = sym (winner_is place) ∙ leads_none _ _ _ c.leader-leader.ensures c.if-leader.false ∙ ap candidate_count (case_is place) in
    let all = eq-eqb (winner c.args.case (value (re place) (im place))) (candidate_count c.args.case) w in
    rw ((case_passed place).0, p.0, p.1.0, p.1.1.0, all)
