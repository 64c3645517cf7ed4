-- The two halves, each as `write_half` leaves it, are the slot. Assumes nothing.
use mathlib.Core.Path.{◌≡◌, sym, ap, ◌∙◌}
use Prim.Native.Nat.{ℕ, ◌+◌, ◌-◌, ◌<◌, ◌≤◌}
use native.Mathlib.Omega.{arith}
use lib.ListN.{length, take}
use lib.Seq.{length-take-le}
use Rattle.complex.specs.declared.Complex.{Complex}
use Rattle.slot.proofs.Halves.{Cuts, ordered}
use Rattle.slot.proofs.Pieces.{length_rest, two_parts}
use Rattle.slot.proofs.Written.{lengths, in_pairs, first_data, second_data, at, one, two, in_one, in_two}
use Rattle.slot.proofs.field.write.Goals as goal
use Rattle.slot.proofs.field.write.Goals.{After-cut-c}

cuts : (c : After-cut-c) → Cuts c.parts_of-p.result c.args.from (length c.args.re.now) c.cut-a.result c.cut-b.result c.cut-c.result
cuts c = record { field1 = c.cut-a.ensures; midamble = c.cut-b.ensures; field2 = c.cut-c.ensures }

-- the first half lies in both buffers
ordered_in : (c : After-cut-c) → (c.cut-b.result ≤ length c.args.re.now) × (c.cut-b.result ≤ length c.args.im.now)
ordered_in c = let o = ordered (cuts c) in (omega (arith, o), omega (arith, o))

pub overflow_add-second : goal.overflow_add-second
overflow_add-second c = omega (arith, lengths c.args.settings.now.kind c.parts_of-p.ensures)

pub overflow_add-second-2 : goal.overflow_add-second-2
overflow_add-second-2 c = omega (arith, lengths c.args.settings.now.kind c.parts_of-p.ensures)

pub write_half-requires : goal.write_half-requires
write_half-requires c =
    let s = c.args in
    let k = cuts (goal.at.write_half-requires c).After-cut-c in
    let o = ordered_in (goal.at.write_half-requires c).After-cut-c in
    let p = c.parts_of-p.ensures in
    let re : length (take c.cut-b.result s.re.now) ≡ c.cut-b.result = length-take-le _ _ o.0 in
    let im : length (take c.cut-b.result s.im.now) ≡ c.cut-b.result = length-take-le _ _ o.1 in
    (im ∙ sym re, omega (arith, ordered k, re), λ l. omega (arith, first_data s.settings.now p k l, in_pairs s.settings.now p k))

pub write_half-requires-2 : goal.write_half-requires-2
write_half-requires-2 c =
    let s = c.args in
    let b = c.cut-b.result in
    let p = c.parts_of-p.ensures in
    let k = cuts (goal.at.write_half-requires-2 c).After-cut-c in
    let re = length_rest s.re.now c.write_half.new.re b c.write_half.auto.re in
    let im = length_rest s.im.now c.write_half.new.im b c.write_half.auto.im in
    let n = im ∙ ap (λ (n : ℕ). n - b) c.requires ∙ sym re in
    (n, omega (arith, ordered k, re), λ m. omega (arith, second_data s.settings.now p k m, in_pairs s.settings.now p k, c.saturating_sub-q.ensures))

pub invariant_of-field2 : goal.invariant_of-field2
invariant_of-field2 c = let l = lengths c.args.settings.now.kind c.parts_of-p.ensures in record { places = (l.first, l.second, omega (arith, l)) }

-- the halves, with the chips of the slot
module _ (c : After-cut-c) where
  abbrev chip : ℕ → Complex
  chip = at c.args.settings.now c.parts_of-p.ensures (cuts c) c.new.ensures.tables c.new.ensures.signs

  abbrev first : ℕ → Complex
  first = one c.args.settings.now c.parts_of-p.ensures (cuts c) c.new.ensures.tables c.new.ensures.signs

  first_is : (i : ℕ) → i < c.cut-b.result → first i ≡ chip i
  first_is = in_one c.args.settings.now c.parts_of-p.ensures (cuts c) c.new.ensures.tables c.new.ensures.signs

  abbrev second : ℕ → ℕ → Complex
  second = two c.args.settings.now c.parts_of-p.ensures (cuts c) c.new.ensures.tables c.new.ensures.signs

  second_is : let p = c.parts_of-p.result in let b = c.cut-b.result in
      (q : ℕ) → q ≡ c.args.from - (p.field1 + p.midamble) → (i : ℕ) → b + i < length c.args.re.now → second q i ≡ chip (b + i)
  second_is = in_two c.args.settings.now c.parts_of-p.ensures (cuts c) c.new.ensures.tables c.new.ensures.signs

pub returns-clause-real : goal.returns-clause-real
returns-clause-real c =
    let k = (goal.at.returns-clause-real c).After-cut-c in
    let q = c.saturating_sub-q in
    two_parts (λ z. z.re) (chip k) (first k) (second k q.result) c.args.re.now _ _ c.cut-b.result (ordered_in k).0 c.write_half.ensures.real (first_is k) c.write_half-2.ensures.real (second_is k _ q.ensures)

pub returns-clause-imaginary : goal.returns-clause-imaginary
returns-clause-imaginary c =
    let k = (goal.at.returns-clause-imaginary c).After-cut-c in
    let q = c.saturating_sub-q in
    two_parts (λ z. z.im) (chip k) (first k) (second k q.result) c.args.im.now _ _ c.cut-b.result (ordered_in k).1 c.write_half.ensures.imaginary (first_is k) c.write_half-2.ensures.imaginary (rw c.requires (second_is k _ q.ensures))
