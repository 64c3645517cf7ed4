-- A code set has four rows of the allocation table: its leader. Assumes nothing.
use mathlib.Core.Path.{◌≡◌, refl, ap, ◌∙◌, subst}
use mathlib.Core.Logic.{◌≢◌}
use mathlib.Core.Bool.{Bool, ◌&&◌}
use Prim.Native.Nat.{ℕ, zero, suc, ◌+◌, ◌*◌, ◌<◌}
use native.Mathlib.Omega.{arith}
use mir.Facts.{and_yes}
use lib.Dec.{T, eqb, eqb→eq, ltb, ltb→lt, lit<}
use lib.IntN.{ℤ, pos, neg_ℤ, nat_abs, ◌-ℤ◌, ◌*ℤ◌}
use Rattle.complex.specs.declared.Complex.{Complex}
use Rattle.complex.specs.Arithmetic.{real, 𝟎, 𝟏, 𝐣, ◌⊗◌, conj}
use Rattle.complex.proofs.Integers.{ring}
use Rattle.complex.proofs.Ring.{by_components}
use Rattle.codes.specs.Range.{each}
use Rattle.codes.specs.declared.ModulatedCode.{ModulatedCode}
use Rattle.codes.specs.declared.burst.CodeSet.{CodeSet}
use Rattle.codes.specs.Allocation.{allocation, case_1, case_2, code_set, bad_frame_or_half, one_or_two, allocation_row, signed}
use Rattle.codes.proofs.Tests.{each_at, same, same→eq}
use Rattle.read_sync.specs.SyncReading.{candidate}
use Rattle.read_sync.specs.declared.case.Case.{Case}
use Rattle.read_sync.specs.declared.case.Case.TheVariants.{One, Two}
use Rattle.read_sync.specs.declared.sync_reading.Leader.{Leader}
use Rattle.read_sync.specs.Cases.{set_count}
use Rattle.read_sync.specs.Shares.{share_of, shares_of}
use Rattle.read_sync.specs.Leaders.{leader_in_row, leader_of_row, leader_of_signs, leader_or_later, Leads, SmallSet}
use Rattle.read_sync.proofs.Leaders.{leads_cong, leads_joined}
use Rattle.read_sync.proofs.Rows.{codes, row_leads}

sends : ℕ → Complex → ModulatedCode → Bool
sends i u m = eqb m.code i && (same m.unit.re u.re && same m.unit.im u.im)

row_sends : ℕ → ℕ → ℕ → Bool
row_sends case n q =
    let w = allocation_row q (code_set (1 + n)) in
    let o = codes case (8 * (4 * n + q)) in
    sends w.first w.unit o.first && (sends w.second w.unit o.second && sends w.marker 𝟏 o.marker)

sets_test : T (each 3 (λ case. each (2 * case) (λ n. each 4 (row_sends case n))))
unfolding each row_sends sends same candidate allocation case_1 case_2 code_set bad_frame_or_half one_or_two allocation_row signed real 𝟎 𝟏 𝐣 ◌⊗◌
sets_test = tt

-- the codes of a set have products
small_set : ℕ → Bool
small_set n = let s = code_set (1 + n) in ltb s.a 16 && (ltb s.b 16 && ltb s.d 16)

small_sets : T (each 4 small_set)
unfolding each small_set code_set
small_sets = tt

pub set_small : (n : ℕ) → n < 4 → SmallSet (code_set (1 + n))
unfolding small_set
set_small n h =
    let s = code_set (1 + n) in
    let a = and_yes (ltb s.a 16) _ (each_at 4 small_set small_sets n h) in
    let b = and_yes (ltb s.b 16) _ a.1 in
    record { a = ltb→lt s.a 16 a.0; b = ltb→lt s.b 16 b.0; d = ltb→lt s.d 16 b.1 }

pub row_small : (q : ℕ) (s : CodeSet) → q < 4 → SmallSet s → ((allocation_row q s).first < 16) × ((allocation_row q s).second < 16) × ((allocation_row q s).marker < 16)
unfolding allocation_row
row_small zero s l h = (h.a, h.b, h.d)
row_small (suc zero) s l h = (h.a, h.b, h.d)
row_small (suc (suc zero)) s l h = (h.a, h.d, h.b)
row_small (suc (suc (suc zero))) s l h = (h.b, h.d, h.a)
row_small (suc (suc (suc (suc q)))) s l h = absurd (omega (arith, l))

pub set_row_small : (case : Case) (n q : ℕ) → n < set_count case → q < 4
    → let w = allocation_row q (code_set (1 + n)) in (w.first < 16) × (w.second < 16) × (w.marker < 16)
set_row_small case n q h g = row_small q (code_set (1 + n)) g (set_small n (below case h))
  where
    below : (case : Case) → n < set_count case → n < 4
    below One h = omega (arith, h)
    below Two h = h

-- a share by the code and its unit, 1 or j
share_sent : (d : ℕ → Complex) (i : ℕ) (u : Complex) (m : ModulatedCode) → T (sends i u m) → share_of d m ≡ (d i ⊗ conj u).re
unfolding share_of sends
share_sent d i u m t =
    let a = and_yes (eqb m.code i) _ t in
    let b = and_yes (same m.unit.re u.re) _ a.1 in
    let v : m.unit ≡ u = by_components (same→eq m.unit.re u.re b.0) (same→eq m.unit.im u.im b.1) in
    λ k. (d (eqb→eq m.code i a.0 k) ⊗ conj (v k)).re

by_one : (x : Complex) → (x ⊗ conj 𝟏).re ≡ x.re
unfolding 𝟏 ◌⊗◌ conj
by_one x = by x.re x.im
  where
    by : (a b : ℤ) → a *ℤ pos 1 -ℤ b *ℤ neg_ℤ (pos 0) ≡ a
    by a b = simp ring

by_j : (x : Complex) → (x ⊗ conj 𝐣).re ≡ x.im
unfolding 𝐣 ◌⊗◌ conj
by_j x = by x.re x.im
  where
    by : (a b : ℤ) → a *ℤ pos 0 -ℤ b *ℤ neg_ℤ (pos 1) ≡ b
    by a b = simp ring

one_re : 𝟏.re ≢ pos 0
unfolding 𝟏
one_re e = subst (λ (z : ℤ). T (eqb (nat_abs z) 1)) e tt

j_re : 𝐣.re ≡ pos 0
unfolding 𝐣
j_re = refl

-- which part of a product a row's unit takes
pub by_unit : (q : ℕ) (s : CodeSet) (x : Complex) → q < 4
    → ((allocation_row q s).unit.re ≡ pos 0 → (x ⊗ conj (allocation_row q s).unit).re ≡ x.im) × ((allocation_row q s).unit.re ≢ pos 0 → (x ⊗ conj (allocation_row q s).unit).re ≡ x.re)
unfolding allocation_row
by_unit zero s x l = (λ e. absurd (one_re e), λ n. by_one x)
by_unit (suc zero) s x l = (λ e. by_j x, λ n. absurd (n j_re))
by_unit (suc (suc zero)) s x l = (λ e. by_j x, λ n. absurd (n j_re))
by_unit (suc (suc (suc zero))) s x l = (λ e. by_j x, λ n. absurd (n j_re))
by_unit (suc (suc (suc (suc q)))) s x l = absurd (omega (arith, l))

module _ (d : ℕ → Complex) (case n : ℕ) (h : case < 3) (g : n < 2 * case) where
  abbrev set : CodeSet
  set = code_set (1 + n)

  -- row q
  pub row_of_set : (q : ℕ) → q < 4 → Leads (λ k. shares_of d (codes case (32 * n + 8 * q + k))) 8 (leader_in_row case d (allocation_row q set))
  unfolding row_sends
  row_of_set q l =
      let o = codes case (8 * (4 * n + q)) in
      let w = allocation_row q set in
      let a = and_yes (sends w.first w.unit o.first) _ (each_at 4 (row_sends case n) (each_at (2 * case) (λ n. each 4 (row_sends case n)) (each_at 3 (λ case. each (2 * case) (λ n. each 4 (row_sends case n))) sets_test case h) n g) q l) in
      let b = and_yes (sends w.second w.unit o.second) _ a.1 in
      let first_is = share_sent d w.first w.unit o.first a.0 in
      let second_is = share_sent d w.second w.unit o.second b.0 in
      let marker-is = share_sent d w.marker 𝟏 o.marker b.1 ∙ by_one (d w.marker) in
      let place : 8 * (4 * n + q) ≡ 32 * n + 8 * q = omega arith in
      subst (λ (x : ℕ). Leads (λ k. shares_of d (codes case (x + k))) 8 (leader_in_row case d w)) place
      (subst (Leads (λ k. shares_of d (codes case (8 * (4 * n + q) + k))) 8) (λ i. leader_of_row case (leader_of_signs (first_is i)) (leader_of_signs (second_is i)) (leader_of_signs (marker-is i)))
      (row_leads d case (4 * n + q) h (omega arith)))

  abbrev score_at : ℕ → ℤ
  score_at k = shares_of d (codes case (32 * n + k))

  abbrev in_row : ℕ → Leader
  in_row q = leader_in_row case d (allocation_row q set)

  -- the four rows, one after the other
  pub set_leads : Leads score_at 32 (leader_or_later (leader_or_later (leader_or_later (in_row 0) 8 (in_row 1)) 16 (in_row 2)) 24 (in_row 3))
  set_leads =
      let s : ℕ → ℤ = λ j. shares_of d (codes case j) in
      let first : Leads score_at 8 (in_row 0) = leads_cong (λ k. s (32 * n + 8 * 0 + k)) score_at 8 _ (λ k _. let e : 32 * n + 8 * 0 + k ≡ 32 * n + k = omega arith in ap s e) (row_of_set 0 (lit< tt)) in
      leads_joined s (32 * n) 24 8 _ _
      (leads_joined s (32 * n) 16 8 _ _
      (leads_joined s (32 * n) 8 8 _ _ first (row_of_set 1 (lit< tt)))
      (row_of_set 2 (lit< tt)))
      (row_of_set 3 (lit< tt))
