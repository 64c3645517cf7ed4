-- `part` meets its contract. Assumes nothing.
use mathlib.Core.Path.{◌≡◌, sym, ap, ap₂, ◌∙◌, subst}
use Prim.Native.Nat.{ℕ, ◌+◌, ◌*◌, ◌≤◌, ◌<◌}
use native.Mathlib.Omega.{arith}
use borrow.Author.Rules.{rules}
use lib.IntN.{pos, ◌*ℤ◌}
use Rattle.complex.specs.declared.Complex.{Complex}
use Rattle.complex.specs.Arithmetic.{◌+j◌, real, ◌⊗◌}
use Rattle.complex.specs.Fits.{Within, Both}
use Rattle.complex.proofs.Stored.{Is, held, number, stored, fits, within, times}
use Rattle.complex.specs.Buffers.{◌at◌}
use Rattle.codes.specs.declared.Allocated.{Allocated}
use Rattle.codes.specs.SyncCodes.{a_signs}
use Rattle.codes.specs.Allocation.{allocation}
use Rattle.codes.specs.Burst.{burst}
use Rattle.codes.proofs.Rows.{row_within, a_signs_test}
use Rattle.codes.proofs.Allocations.{AllKnown, allocation_known}
use Rattle.modulation.specs.SixteenChips.{modulated_parts, part_chip}
use Rattle.modulation.proofs.BurstParts.{small_units, gained_both, burst_parts, modulated_parts_both}
use Rattle.modulation.proofs.burst.part.Goals as goal
use Rattle.modulation.proofs.burst.part.Goals.{After-from, After-gained-s, After-modulated_parts-t, Start}

-- the gains are 16-bit numbers
small : (c : Start) → (c.args.gp ≤ 65535) × (c.args.gs ≤ 65535)
small c = (omega arith, omega arith)

-- what the locals p, t and s hold
p_is : (c : After-from) → let s = c.args in
    Is 65535 (held c.a_repeat.result *ℤ held c.from.result) (a_signs at s.m *ℤ pos s.gp)
p_is c =
    rw c.from.ensures (times (stored (record { equal = c.a_repeat.ensures; size = row_within a_signs a_signs_test _ }) tt) (stored (number 65535 _ (small c.before.before).0) tt))

module _ (c : After-modulated_parts-t) where
  abbrev start : Start
  start = c.before.before.before.before

  abbrev allocated_codes : Allocated
  allocated_codes = let s = start.args in allocation s.case s.group.0 s.frame s.half

  abbrev t : Complex
  t = modulated_parts allocated_codes start.args.m

  t_both : Both 3 t
  t_both = modulated_parts_both allocated_codes (small_units allocated_codes (allocation_known _ _ _ _)) _

  t_is : c.modulated_parts-t.result ≡ t
  t_is = c.modulated_parts-t.ensures ∙ ap (λ (s : Allocated). modulated_parts s start.args.m) c.allocated.ensures

s_is : (c : After-gained-s) → c.gained-s.result ≡ real (pos (start c.before).args.gs) ⊗ (t c.before ⊗ (pos 1 +j pos 1))
s_is c = c.gained-s.ensures ∙ ap (λ (x : Complex). real (pos (start c.before).args.gs) ⊗ (x ⊗ (pos 1 +j pos 1))) (t_is c.before)

-- what the closure makes is the burst
chip_is : (c : After-gained-s) → let s = (start c.before).args in (i : ℕ) → i < 16
    → part_chip (held (held (held c.a_repeat.result *ℤ held c.from.result))) c.gained-s.result i
    ≡ burst s.case s.group.0 s.frame s.half s.gp s.gs (s.m * 16 + i)
chip_is c i h =
    ap₂ (λ p x. part_chip p x i) (stored (stored (p_is c.before.before.before) tt) tt).equal (s_is c)
    ∙ sym (burst_parts _ i (start c.before).requires h _ _ _ _ _ _)

pub overflow_mul-p : goal.overflow_mul-p
overflow_mul-p c = fits (p_is c) tt

pub modulated_parts-t-requires : goal.modulated_parts-t-requires
modulated_parts-t-requires c = small_units _ (subst AllKnown (sym c.allocated.ensures) (allocation_known _ _ _ _))

pub gained-s-requires : goal.gained-s-requires
gained-s-requires c = subst (Both 3) (sym (t_is c)) (t_both c)

pub from_fn-requires : goal.from_fn-requires
from_fn-requires c i l =
    let w = goal.at.from_fn-requires c in
    let p : Within 65535 (held (held (held c.a_repeat.result *ℤ held c.from.result))) = within (stored (stored (p_is w.After-from) tt) tt) in
    let s : Both 400000 c.gained-s.result = subst (Both 400000) (sym (s_is w.After-gained-s)) (gained_both _ _ (small w.Start).1 (t_both w.After-modulated_parts-t)) in
    search rules

pub returns : goal.returns
returns c =
    c.from_fn.ensures _ (λ i z l e.
    let k : z ≡ part_chip (held (held (held c.a_repeat.result *ℤ held c.from.result))) c.gained-s.result i = search rules in
    k ∙ chip_is (goal.at.returns c).After-gained-s i l)
