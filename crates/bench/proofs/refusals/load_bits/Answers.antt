-- `load_bits` meets its contract: the tests in document 01's order, those of `close` first. Assumes nothing.
use Rattle.std.proofs.Common.{◌≡◌, ◌≢◌, sym, ◌∙◌, ℕ, List, drop, length}
use borrow.Author.Tests.{eq-eqb, ne_eqb}
use Rattle.codes.specs.Refusals.{RefusalRule, refused, ◌otherwise◌}
use Rattle.codes.specs.declared.tree.Code.{Code}
use Rattle.slot.specs.Slot.{bit_count}
use Rattle.slot.specs.View.{view}
use Rattle.slot.specs.declared.Settings.{Settings}
use Rattle.bench.specs.BenchCalls.{close_refusals, load_bits_refusals}
use Rattle.bench.proofs.Accepted.{IsFound, after_tests, found, same_code}
use Rattle.bench.proofs.refusals.load_bits.Goals as goal

-- close's tests passed, and n is the count that was asked for
module _ (s : Settings) (code : Code) (Q k : ℕ) (e : IsFound (close_refusals (view s) Q k) code Q k) (bits : List ℕ) {kind n : ℕ} (h : s.kind ≡ kind) (b : n ≡ bit_count kind code.q) where
  abbrev tests : List RefusalRule
  tests = load_bits_refusals (view s) Q k bits

  count : n ≡ bit_count s.kind Q
  count = rw (h, ← (same_code (close_refusals (view s) Q k) code Q k e).0) b

  passed_7 : {A : Type 0} (a : A) → tests otherwise a ≡ drop 3 tests otherwise a
  passed_7 a = after_tests (close_refusals (view s) Q k) code Q k e a (drop 3 tests)

  wrong_count : {A : Type 0} (a : A) → length bits ≢ n → refused 8 ≡ tests otherwise a
  unfolding view
  wrong_count a d = sym (passed_7 a ∙ rw (ne_eqb (length bits) (bit_count s.kind Q) (λ z. d (z ∙ sym count))))

  passed_8 : {A : Type 0} (a : A) → length bits ≡ n → tests otherwise a ≡ drop 4 tests otherwise a
  unfolding view
  passed_8 a z = passed_7 a ∙ rw (eq-eqb (length bits) (bit_count s.kind Q) (z ∙ count))

pub returns-then-bits-bit_count : goal.returns-then-bits-bit_count
returns-then-bits-bit_count c s g h =
    let a = c.args in
    wrong_count s c.in_ok-code.code a.q a.k (c.in_ok-code.ensures s g) a.bits.now h c.bit_count.ensures _ c.if-bits-bit_count.true

pub returns-then-has_byte_above_1 : goal.returns-then-has_byte_above_1
returns-then-has_byte_above_1 c s g h =
    let a = c.args in
    sym (passed_8 s c.in_ok-code.code a.q a.k (c.in_ok-code.ensures s g) a.bits.now h c.bit_count.ensures _ c.if-bits-bit_count.false
    ∙ rw (sym c.has_byte_above_1.ensures ∙ c.if-has_byte_above_1.true))

pub returns : goal.returns
returns c s g h =
    let a = c.args in
    found (close_refusals (view s) a.q a.k) c.in_ok-code.code a.q a.k (c.in_ok-code.ensures s g)
    ∙ sym (passed_8 s c.in_ok-code.code a.q a.k (c.in_ok-code.ensures s g) a.bits.now h c.bit_count.ensures _ c.if-bits-bit_count.false
    ∙ rw (sym c.has_byte_above_1.ensures ∙ c.if-has_byte_above_1.false))
