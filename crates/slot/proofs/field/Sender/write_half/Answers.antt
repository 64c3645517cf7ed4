-- `write_half` meets its contract: its two parts, each as its writer leaves it. Assumes nothing.
use mathlib.Core.Path.{◌≡◌, sym, ◌∙◌}
use mathlib.Core.Bool.{cond}
use Prim.Native.Nat.{ℕ, ◌+◌, ◌<◌}
use native.Mathlib.Omega.{arith}
use borrow.Author.Tests.{lt-ltb, le-ltb}
use lib.Dec.{ltb}
use lib.ListN.{length, take}
use lib.Seq.{length-take-le}
use Rattle.complex.specs.declared.Complex.{Complex}
use Rattle.complex.specs.Arithmetic.{𝟎}
use Rattle.slot.specs.Sent.{sent_chip}
use Rattle.slot.proofs.Pieces.{two_parts}
use Rattle.slot.proofs.field.Sender.write_half.Goals as goal

pub slice_bounds-write_field-end-2 : goal.slice_bounds-write_field-end-2
slice_bounds-write_field-end-2 c = sym (length-take-le _ _ (omega arith))

pub slice_bounds-write_field-end-4 : goal.slice_bounds-write_field-end-4
slice_bounds-write_field-end-4 c = sym (length-take-le _ _ (omega arith))

pub write_field-requires : goal.write_field-requires
write_field-requires c =
    let s = c.args in
    let re : length (take s.count s.re.now) ≡ s.count = length-take-le _ _ (omega arith) in
    let im : length (take s.count s.im.now) ≡ s.count = length-take-le _ _ (omega arith) in
    (im ∙ sym re, rw re c.requires.2)

pub returns : goal.returns
unfolding 𝟎
returns c =
    let s = c.args in
    let at : ℕ → Complex = λ i. sent_chip s.self.now s.field (s.q + i) in
    let chip : ℕ → Complex = λ i. cond (ltb i s.count) (at i) 𝟎 in
    let in_field : (i : ℕ) → i < s.count → at i ≡ chip i = λ i l. sym (rw (lt-ltb i s.count l)) in
    let after : (i : ℕ) → s.count + i < length s.re.now → 𝟎 ≡ chip (s.count + i) = λ i l. sym (rw (le-ltb (s.count + i) s.count (omega arith))) in record { real = two_parts (λ z. z.re) chip at (λ i. 𝟎) s.re.now _ _ s.count (omega arith) c.write_field.ensures.real in_field c.write_silence.ensures after; imaginary = two_parts (λ z. z.im) chip at (λ i. 𝟎) s.im.now _ _ s.count (omega arith) c.write_field.ensures.imaginary in_field c.write_silence-2.ensures (rw c.requires.0 after) }
