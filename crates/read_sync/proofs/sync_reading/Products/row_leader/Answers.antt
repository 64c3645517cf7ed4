-- `row_leader` meets its contract: the row's unit says which part of a product counts. Assumes nothing.
use mathlib.Core.Logic.{◌≢◌}
use mathlib.Core.Path.{◌≡◌, sym, ap, ◌∙◌, subst}
use Prim.Native.Nat.{ℕ, ◌+◌, ◌*◌, ◌<◌}
use native.Mathlib.Omega.{arith}
use borrow.Author.Rules.{rules}
use lib.IntN.{ℤ, pos}
use lib.ListN.{get_or}
use denote.Bor.{Bor}
use mathlib.Core.List.{List}
use mir.Syntax.{w32, w64}
use mir.Val.{SFits, to_z, of_z}
use mir.Facts.{to_z-of_z}
use Rattle.complex.specs.declared.Complex.{Complex}
use Rattle.complex.specs.Arithmetic.{◌⊗◌, conj}
use Rattle.complex.specs.Buffers.{value}
use Rattle.complex.specs.Fits.{Within}
use Rattle.complex.proofs.Sizes.{fits_within}
use Rattle.codes.specs.declared.burst.AllocationRow.{AllocationRow}
use Rattle.codes.specs.Allocation.{allocation_row, code_set}
use Rattle.codes.proofs.Allocations.{unit_small}
use Rattle.read_sync.specs.Leaders.{leader_of_row, leader_of_signs, Leads}
use Rattle.read_sync.specs.Cases.{case_number}
use Rattle.read_sync.specs.Searching.{score_by}
use Rattle.read_sync.proofs.Cases.{number_below, sets_are}
use Rattle.read_sync.proofs.Sets.{by_unit, row_of_set, set_row_small}
use Rattle.read_sync.proofs.sync_reading.Products.row_leader.Goals as goal
use Rattle.read_sync.proofs.sync_reading.Products.row_leader.Goals.{After-row_of-r, After-of_row, then-r-eq0, else-r-eq0}

module _ (c : After-row_of-r) where
  abbrev row : AllocationRow
  row = allocation_row c.args.q (code_set (1 + c.args.n))

  row_is : c.row_of-r.result ≡ row
  row_is = c.row_of-r.ensures ∙ ap (allocation_row c.args.q) c.code_set.ensures

  -- its codes have products
  small : (c.row_of-r.result.first < 16) × (c.row_of-r.result.second < 16) × (c.row_of-r.result.marker < 16)
  small = subst (λ (r : AllocationRow). (r.first < 16) × (r.second < 16) × (r.marker < 16)) (sym row_is) (set_row_small c.args.case c.args.n c.args.q c.requires.0 c.requires.1)

  unit_is : to_z w32 (of_z w32 c.row_of-r.result.unit.re) ≡ row.unit.re
  unit_is = let e = ap (λ (r : AllocationRow). r.unit.re) row_is in to_z-of_z {w = w32} (fits_within (subst (Within 1) (sym e) (unit_small _ _).re) tt) ∙ e

  abbrev products : ℕ → Complex
  products = value c.args.self.now.re c.args.self.now.im

pub bounds-pair-r : goal.bounds-pair-r
bounds-pair-r c = (small (goal.at.bounds-pair-r c).After-row_of-r).0

pub bounds-pair-r-2 : goal.bounds-pair-r-2
bounds-pair-r-2 c = (small (goal.at.bounds-pair-r-2 c).After-row_of-r).1

pub bounds-self-r : goal.bounds-self-r
bounds-self-r c = (small (goal.at.bounds-self-r c).After-row_of-r).2

-- ---- what counts of a product
module _ (c : After-of_row) where
  abbrev place : After-row_of-r
  place = (goal.at.returns c).After-row_of-r

  abbrev share : ℕ → ℤ
  share i = (products place i ⊗ conj (row place).unit).re

  pair_is : (i : ℕ) → get_or c.if-r-eq0.pair.now i (pos 0) ≡ share i
  pair_is i = elim c.if-r-eq0.branch [
    | then-r-eq0 w ↦ let zero = sym (unit_is place) ∙ ap (to_z w32) w.if-r-eq0.true in ap (λ (b : Bor (List ℤ)). get_or b.now i (pos 0)) w.pair-is ∙ sym ((by_unit c.args.q (code_set (1 + c.args.n)) (products place i) c.requires.1).0 zero)
    | else-r-eq0 w ↦ let one : (row place).unit.re ≢ pos 0 = λ e. w.if-r-eq0.false (ap (of_z w32) (ap (λ (r : AllocationRow). r.unit.re) (row_is place) ∙ e)) in ap (λ (b : Bor (List ℤ)). get_or b.now i (pos 0)) w.pair-is ∙ sym ((by_unit c.args.q (code_set (1 + c.args.n)) (products place i) c.requires.1).1 one)
  ]

  of_pair : (i : ℕ) → leader_of_signs (to_z w64 (of_z w64 (get_or c.if-r-eq0.pair.now i (pos 0)))) ≡ leader_of_signs (share i)
  of_pair i =
      let f : SFits w64 (get_or c.if-r-eq0.pair.now i (pos 0)) = search rules in
      ap leader_of_signs (to_z-of_z f ∙ pair_is i)

pub returns : goal.returns
returns c =
    let r = row_is (place c) in
    let f : SFits w64 (get_or c.args.self.now.re c.row_of-r.result.marker (pos 0)) = search rules in
    let first = c.of_signs.ensures.is ∙ of_pair c _ ∙ ap (λ (w : AllocationRow). leader_of_signs (share c w.first)) r in
    let second = c.of_signs-2.ensures.is ∙ of_pair c _ ∙ ap (λ (w : AllocationRow). leader_of_signs (share c w.second)) r in
    let marker = c.of_signs-3.ensures.is ∙ ap leader_of_signs (to_z-of_z f) ∙ ap (λ (w : AllocationRow). leader_of_signs (products (place c) w.marker).re) r in
    subst (Leads (λ k. score_by c.args.case c.args.self.now.re c.args.self.now.im (32 * c.args.n + 8 * c.args.q + k)) 8)
    (sym (c.of_row.ensures ∙ (λ i. leader_of_row (case_number c.args.case) (first i) (second i) (marker i))))
    (row_of_set (products (place c)) (case_number c.args.case) c.args.n (number_below c.args.case) (omega (arith, sets_are c.args.case, c.requires.0)) c.args.q c.requires.1)
