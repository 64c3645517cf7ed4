-- `write_field` meets its contract: the loop's invariant says that the chips passed are written. Assumes nothing.
use mathlib.Core.Path.{◌≡◌, refl, sym, ap, ◌∙◌}
use mathlib.Core.List.{List}
use Prim.Native.Nat.{ℕ, ◌+◌, ◌-◌, ◌%◌, ◌<◌, ◌≤◌}
use native.Mathlib.Nat.{add_assoc}
use native.Mathlib.Omega.{arith}
use lib.IntN.{ℤ}
use lib.ListN.{length, take, drop, length-drop}
use lib.Seq.{length-take-le}
use Rattle.complex.specs.declared.Complex.{Complex}
use Rattle.complex.specs.Arithmetic.{◌⊕◌}
use Rattle.complex.specs.Buffers.{listed}
use Rattle.modulation.specs.Modulated.{modulated_chip}
use Rattle.slot.specs.Slot.{sync_chip}
use Rattle.slot.specs.View.{view_sync}
use Rattle.slot.specs.Sent.{sent_chip}
use Rattle.slot.proofs.Pieces.{length_written, part_written, filled}
use Rattle.slot.proofs.field.Sender.write_field.Goals as goal
use Rattle.slot.proofs.field.Sender.write_field.Goals.{After-min, In-loop-done, Start}

-- where the function began
abbrev began : In-loop-done → Start
began c = c.before.before

-- the chips lie among the pairs
small : (c : In-loop-done) → let s = (began c).args in s.field.before + s.q + length s.re.now ≤ 2208
small c = (began c).requires.1 (omega arith)

-- the turn's chips lie in one block and in the buffers
fit : (c : After-min) → let l = c.loop-done in let s = (began c.before).args in
    ((s.q + l.done) % 16 + c.min.result ≤ 16)
    × (l.done + c.min.result ≤ length s.re.now) × (l.done + c.min.result ≤ length s.im.now)
fit c = (omega arith, omega arith, omega arith)

-- what a turn is lent of a buffer
mid_length : (xs : List ℤ) (a m : ℕ) → a + m ≤ length xs → length (take (a + m - a) (drop a xs)) ≡ m
mid_length xs a m h = let e : a + m - a ≡ m = omega arith in rw e (length-take-le m (drop a xs) (omega (arith, length-drop a xs)))

-- the chips of a turn, which begins at chip q of the field and writes m chips of one block, are the field's
place_chip : (f : ℕ → ℕ → Complex) (g : ℕ → Complex) (q start m : ℕ) → q % 16 + m ≤ 16 → (j : ℕ) → j < m
    → f (q - q % 16) (q % 16 + j) ⊕ g (start + (q - q % 16) + (q % 16 + j)) ≡ f (q + j - (q + j) % 16) ((q + j) % 16) ⊕ g (start + (q + j))
place_chip f g q start m h j l =
    let a : q - q % 16 ≡ q + j - (q + j) % 16 = omega arith in
    let b : q % 16 + j ≡ (q + j) % 16 = omega arith in
    let d : start + (q - q % 16) + (q % 16 + j) ≡ start + (q + j) = omega arith in
    λ i. f (a i) (b i) ⊕ g (d i)

pub loop-done-init : goal.loop-done-init
unfolding listed
loop-done-init c = (omega arith, refl, refl, refl, refl)

pub overflow_add-from : goal.overflow_add-from
overflow_add-from c = omega (arith, small c)

pub overflow_add-end : goal.overflow_add-end
overflow_add-end c = omega (arith, small (goal.at.overflow_add-end c).In-loop-done, fit c)

pub overflow_add-field : goal.overflow_add-field
overflow_add-field c = omega (arith, small (goal.at.overflow_add-field c).In-loop-done)

pub overflow_add-field-in-loop-done : goal.overflow_add-field-in-loop-done
overflow_add-field-in-loop-done c = omega (arith, small (goal.at.overflow_add-field-in-loop-done c).In-loop-done, c.args.field.places)

pub write_block-requires : goal.write_block-requires
write_block-requires c =
    let k = small (goal.at.write_block-requires c).In-loop-done in
    let h = fit (goal.at.write_block-requires c).After-min in
    let l = c.loop-done in
    let re = mid_length l.re l.done c.min.result (omega (arith, h)) in
    let im = mid_length l.im l.done c.min.result (omega (arith, h)) in
    (omega (arith, k, h, c.args.field.places), rw re h.0, im ∙ sym re, omega (arith, c.args.field.places))

pub loop-done-preserved : goal.loop-done-preserved
loop-done-preserved c =
    let l = c.loop-done in
    let a = c.args in
    let s = a.self.now in
    let m = c.min.result in
    let h = fit (goal.at.loop-done-preserved c).After-min in
    let f : ℕ → ℕ → Complex = λ first c. modulated_chip s.data (a.field.before + first) c in
    let g : ℕ → Complex = sync_chip s.cell.0 (view_sync s.cell.0 s.sync) in
    let held : ℕ → Complex = sent_chip s a.field in
    let k = l.done + m - l.done in
    let n : l.done + k ≡ l.done + m = omega arith in
    let chip : (i : ℕ) → i < k → _ ≡ held (a.q + (l.done + i)) = λ i d. place_chip f g (a.q + l.done) a.field.start m h.0 i (omega arith) ∙ ap held (add_assoc a.q l.done i) in
    let re_is = part_written (λ i. (held (a.q + i)).re) l.re a.re.now _ _ l.done k (l.done + m) l.invariant.3 n h.1 c.write_block.ensures.real (λ i d. ap (λ (z : Complex). z.re) (chip i d)) in
    let im_is = part_written (λ i. (held (a.q + i)).im) l.im a.im.now _ _ l.done k (l.done + m) l.invariant.4 n h.2 c.write_block.ensures.imaginary (λ i d. ap (λ (z : Complex). z.im) (chip i d)) in
    (h.1, ap length re_is ∙ length_written _ _ _ h.1, ap length im_is ∙ length_written _ _ _ h.2, re_is, im_is)

pub shape_of-re : goal.shape_of-re
shape_of-re c = c.loop-done.invariant.1

pub shape_of-im : goal.shape_of-im
shape_of-im c = c.loop-done.invariant.2

pub returns : goal.returns
returns c =
    let s = c.args in
    let l = c.loop-done in
    record { real = filled _ _ s.re.now _ l.invariant.3 (omega arith); imaginary = filled _ _ s.im.now _ l.invariant.4 (omega arith) }
