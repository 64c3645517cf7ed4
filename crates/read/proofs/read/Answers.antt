-- `read` meets its contract: a refusal, or every reading of a field that passed the tests. Assumes nothing.
use mathlib.Core.Bool.{Bool, false}
use mathlib.Core.Path.{◌≡◌, refl, sym, ap, ap₂, ◌∙◌}
use mathlib.Core.List.{List, [], ◌∷◌, ◌++◌}
use borrow.Author.Rules.{rules}
use Prim.Native.Nat.{ℕ, ◌/◌}
use lib.IntN.{ℤ}
use lib.ListN.{length}
use Rattle.complex.specs.Buffers.{Values, in_buffers, value, written}
use Rattle.codes.specs.Refusals.{refused, gives, RefusalRule, ◌if◌, ◌otherwise◌}
use Rattle.analyser_parts.specs.Components.{either_shorter}
use Rattle.analyser_parts.proofs.Steps.{refused_by, passed_by, given}
use Rattle.read.specs.Reading.{reading, read_call}
use Rattle.read.specs.Refused.{reader_refusals, field_refusals}
use Rattle.read.proofs.read.Goals as goal

-- the parts in which the call is tested
module _ (p q k : ℕ) (re im : List ℤ) (m m' : ℕ) where
  abbrev answer : Values
  answer = in_buffers (length re / q) (reading p q k (value re im))

  abbrev last : List RefusalRule
  last = 18 if either_shorter m m' (length re / q) ∷ []

  -- the cell parameter and the code have passed
  known : {x : ℕ × ℕ × ℕ} → ◌otherwise◌ {A = ℕ × ℕ × ℕ} (reader_refusals p q k) (p, q, k) ≡ gives x → read_call p q k re im m m' ≡ (field_refusals re im ++ last) otherwise answer
  known e = passed_by answer (p, q, k) (reader_refusals p q k) (field_refusals re im ++ last) e

  no_field : {x : ℕ × ℕ × ℕ} {n : ℕ} → ◌otherwise◌ {A = ℕ × ℕ × ℕ} (reader_refusals p q k) (p, q, k) ≡ gives x → ◌otherwise◌ {A = List ℤ × List ℤ} (field_refusals re im) (re, im) ≡ refused n → read_call p q k re im m m' ≡ refused n
  no_field e f = known e ∙ refused_by answer (re, im) (field_refusals re im) last f

  -- so has the field
  accepted : {x : ℕ × ℕ × ℕ} {y : List ℤ × List ℤ} → ◌otherwise◌ {A = ℕ × ℕ × ℕ} (reader_refusals p q k) (p, q, k) ≡ gives x → ◌otherwise◌ {A = List ℤ × List ℤ} (field_refusals re im) (re, im) ≡ gives y
      → either_shorter m m' (length re / q) ≡ false → read_call p q k re im m m' ≡ gives answer
  accepted e f t = known e ∙ passed_by answer (re, im) (field_refusals re im) last f ∙ rw t

abbrev readings : ℕ × ℕ × ℕ → List ℤ × List ℤ → Values
readings (p, q, k) (re, im) = in_buffers (length re / q) (reading p q k (value re im))

pub returns-in_err-field : goal.returns-in_err-field
returns-in_err-field c =
    let s = c.args in
    let e = no_field s.cell.0 s.q s.k s.re.now s.im.now (length s.outre.now) (length s.outim.now) (sym c.in_ok-reader.ensures) (sym c.in_err-field.ensures) in
    rw e (record { answer = search rules; real = refl; imaginary = refl })

pub returns : goal.returns
returns c =
    let s = c.args in
    let p = sym c.in_ok-reader.ensures in
    let f = sym c.in_ok-field.ensures in
    let a = given (reader_refusals s.cell.0 s.q s.k) p in
    let b = given (field_refusals s.re.now s.im.now) f in
    let shorter : ℕ → Bool = either_shorter (length s.outre.now) (length s.outim.now) in
    let n = ap₂ ◌/◌ c.len.ensures refl ∙ sym (λ j. length (b j).0 / (a j).1) in
    let t = ap shorter (sym n) ∙ sym c.is_either_shorter.ensures ∙ c.if-is_either_shorter.false in
    let e = accepted s.cell.0 s.q s.k s.re.now s.im.now (length s.outre.now) (length s.outim.now) p f t in
    rw e (record {
      answer = refl;
      real = c.all.ensures.real ∙ sym (λ j. written (readings (a j) (b j)).re s.outre.now);
      imaginary = c.all.ensures.imaginary ∙ sym (λ j. written (readings (a j) (b j)).im s.outim.now);
    })
