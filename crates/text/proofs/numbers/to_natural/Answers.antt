-- `to_natural` meets its contract: by the byte at hand.
use Rattle.std.proofs.Common.{◌≡◌, ◌+◌, ◌∙◌, sym, ap, arith, length, drop}
use Rattle.std.proofs.lemmas.Grind.{common_steps}
use lib.Seq.{drop-length}
use Rattle.text.proofs.Digits.{read_after, natural_read, read_past, read_all, read_other, read_digit, read_past_ten, read_next}
use Rattle.text.proofs.numbers.to_natural.Goals as goal

pub loop-b-init : goal.loop-b-init
loop-b-init c = (omega arith, omega arith, natural_read c.args.w.now (grind (arith, common_steps)))

pub returns-in_err-checked_mul : goal.returns-in_err-checked_mul
returns-in_err-checked_mul c =
    let l = c.loop-b in
    c.from_residual.ensures ∙ sym (read_next _ l.v l.b-index (omega arith) l.invariant.2 ∙ read_past_ten l.v _ _ (omega (arith, c.in_err-checked_mul.ensures)))

pub returns-in_err-digit : goal.returns-in_err-digit
returns-in_err-digit c =
    let l = c.loop-b in
    c.from_residual-in_err-digit.ensures ∙ sym (read_next _ l.v l.b-index (omega arith) l.invariant.2 ∙ read_other l.v _ _ c.in_err-digit.ensures)

pub returns-in_err-v : goal.returns-in_err-v
returns-in_err-v c =
    let l = c.loop-b in
    c.from_residual-in_err-v.ensures
    ∙ sym (read_next _ l.v l.b-index (omega arith) l.invariant.2 ∙ read_digit l.v _ _ _ c.in_ok-digit.ensures ∙ read_past _ _ (omega (arith, c.in_err-v.ensures, c.in_ok-checked_mul.ensures, c.from.ensures)))

pub loop-b-preserved : goal.loop-b-preserved
loop-b-preserved c =
    let l = c.loop-b in (
      omega arith,
      omega (arith, c.in_ok-v.ensures),
      read_next _ l.v l.b-index (omega arith) l.invariant.2 ∙ read_digit l.v _ _ _ c.in_ok-digit.ensures ∙ ap (λ n. read_after n (drop (l.b-index + 1) c.args.w.now)) (omega (arith, c.in_ok-v.ensures, c.in_ok-checked_mul.ensures, c.from.ensures)),
    )

pub returns : goal.returns
returns c =
    let l = c.loop-b in
    let w = c.args.w.now in
    let e : l.b-index ≡ length w = omega arith in
    sym (l.invariant.2 ∙ rw (e, drop-length w, read_all l.v l.invariant.1))
