-- A row of the allocation table: its eight candidates send the same codes, each with its own three signs. Which candidate has which signs is the code
-- itself (`place_in_row`): `rows_test` holds it to the allocation of `codes`. Assumes nothing.
use mathlib.Core.Path.{◌≡◌, sym, ap, ◌∙◌}
use mathlib.Core.Bool.{Bool, ◌&&◌, cond}
use Prim.Native.Nat.{ℕ, ◌+◌, ◌*◌, ◌/◌, ◌%◌, ◌<◌}
use mir.Facts.{and_yes}
use lib.Dec.{T, eqb, eqb→eq, ltb, ltb→lt}
use lib.IntN.{ℤ, ◌+ℤ◌, ◌*ℤ◌}
use Rattle.complex.specs.declared.Complex.{Complex}
use Rattle.complex.specs.Arithmetic.{real, 𝟎, 𝟏, 𝐣, ◌⊗◌}
use Rattle.complex.proofs.Integers.{ring}
use Rattle.codes.specs.Signs.{minus_if}
use Rattle.codes.specs.Range.{each}
use Rattle.codes.specs.declared.ModulatedCode.{ModulatedCode}
use Rattle.codes.specs.declared.Allocated.{Allocated}
use Rattle.codes.specs.Allocation.{allocation, case_1, case_2, code_set, bad_frame_or_half, one_or_two, allocation_row, signed}
use Rattle.codes.proofs.Tests.{each_at, same, same→eq}
use Rattle.analyser_parts.proofs.Products.{times_conj}
use Rattle.read_sync.specs.SyncReading.{candidate, candidate_codes}
use Rattle.read_sync.specs.Shares.{share_of, shares_of}
use Rattle.read_sync.specs.Leaders.{leader_of_row, leader_of_signs, Leads, place_in_row}
use Rattle.read_sync.proofs.Leaders.{leads_cong, leads_placed}
use Rattle.read_sync.proofs.SumLeaders.{leads_of_signs, leads_with}

-- ---- the places in a row
-- the signs of the candidate at a place
signs_at : ℕ → ℕ → ℕ
signs_at case k = cond (eqb case 1) k (k / 2 % 2 * 4 + (k / 2 + k / 4) % 2 * 2 + k % 2)

undone : ℕ → ℕ → Bool
undone case k = ltb (place_in_row case k) 8 && (ltb (signs_at case k) 8 && (eqb (place_in_row case (signs_at case k)) k && eqb (signs_at case (place_in_row case k)) k))

undone_test : T (each 3 (λ case. each 8 (undone case)))
unfolding each undone signs_at place_in_row
undone_test = tt

places : (case : ℕ) → case < 3 → (k : ℕ) → k < 8 → (place_in_row case k < 8) × (signs_at case k < 8) × (place_in_row case (signs_at case k) ≡ k) × (signs_at case (place_in_row case k) ≡ k)
unfolding undone
places case h k l =
    let a = and_yes (ltb (place_in_row case k) 8) _ (each_at 8 (undone case) (each_at 3 (λ case. each 8 (undone case)) undone_test case h) k l) in
    let b = and_yes (ltb (signs_at case k) 8) _ a.1 in
    let c = and_yes (eqb (place_in_row case (signs_at case k)) k) _ b.1 in
    (ltb→lt _ 8 a.0, ltb→lt _ 8 b.0, eqb→eq _ k c.0, eqb→eq _ k c.1)

-- ---- the signs of a row's codes
abbrev pub codes : ℕ → ℕ → Allocated
codes case n = candidate_codes case (candidate case n)

-- the same code, with its unit times s
with_sign : ℤ → ModulatedCode → ModulatedCode → Bool
with_sign s m o = eqb m.code o.code && (same m.unit.re (s *ℤ o.unit.re) && same m.unit.im (s *ℤ o.unit.im))

abbrev negative : ℕ → ℤ
negative n = minus_if (eqb n 1)

row_of_signs : ℕ → ℕ → ℕ → Bool
row_of_signs case r k =
    let m = codes case (8 * r + place_in_row case k) in
    let o = codes case (8 * r) in
    with_sign (negative (k / 2 / 2)) m.first o.first && (with_sign (negative (k / 2 % 2)) m.second o.second && with_sign (negative (k % 2)) m.marker o.marker)

rows_test : T (each 3 (λ case. each (8 * case) (λ r. each 8 (row_of_signs case r))))
unfolding each row_of_signs with_sign same place_in_row candidate allocation case_1 case_2 code_set bad_frame_or_half one_or_two allocation_row signed real 𝟎 𝟏 𝐣 ◌⊗◌
rows_test = tt

-- a share follows the sign of its code
share_with_sign : (d : ℕ → Complex) (s : ℤ) (m o : ModulatedCode) → T (with_sign s m o) → share_of d m ≡ s *ℤ share_of d o
unfolding share_of with_sign
share_with_sign d s m o t =
    let a = and_yes (eqb m.code o.code) _ t in
    let b = and_yes (same m.unit.re (s *ℤ o.unit.re)) _ a.1 in
    let z = d o.code in
    ap (λ (x : Complex). x.re) (times_conj (d m.code) m.unit)
    ∙ (λ i. (d (eqb→eq m.code o.code a.0 i)).re *ℤ same→eq m.unit.re (s *ℤ o.unit.re) b.0 i +ℤ (d (eqb→eq m.code o.code a.0 i)).im *ℤ same→eq m.unit.im (s *ℤ o.unit.im) b.1 i)
    ∙ by s z.re z.im o.unit.re o.unit.im
    ∙ ap (λ (x : Complex). s *ℤ x.re) (sym (times_conj z o.unit))
  where
    by : (s x y u v : ℤ) → x *ℤ (s *ℤ u) +ℤ y *ℤ (s *ℤ v) ≡ s *ℤ (x *ℤ u +ℤ y *ℤ v)
    by s x y u v = simp ring

module _ (d : ℕ → Complex) (case r : ℕ) (h : case < 3) (g : r < 8 * case) where
  abbrev o : Allocated
  o = codes case (8 * r)

  scores : (k : ℕ) → k < 8
      → (negative (k / 2 / 2) *ℤ share_of d o.first +ℤ negative (k / 2 % 2) *ℤ share_of d o.second) +ℤ negative (k % 2) *ℤ share_of d o.marker
      ≡ shares_of d (codes case (8 * r + place_in_row case k))
  unfolding row_of_signs
  scores k l =
      let m = codes case (8 * r + place_in_row case k) in
      let a = and_yes (with_sign (negative (k / 2 / 2)) m.first o.first) _
      (each_at 8 (row_of_signs case r) (each_at (8 * case) (λ r. each 8 (row_of_signs case r)) (each_at 3 (λ case. each (8 * case) (λ r. each 8 (row_of_signs case r))) rows_test case h) r g) k l) in
      let b = and_yes (with_sign (negative (k / 2 % 2)) m.second o.second) _ a.1 in
      sym (λ i. (share_with_sign d _ m.first o.first a.0 i +ℤ share_with_sign d _ m.second o.second b.0 i) +ℤ share_with_sign d _ m.marker o.marker b.1 i)

  -- the leader of the row, from the shares of its first candidate
  pub row_leads : Leads (λ k. shares_of d (codes case (8 * r + k))) 8 (leader_of_row case (leader_of_signs (share_of d o.first)) (leader_of_signs (share_of d o.second)) (leader_of_signs (share_of d o.marker)))
  row_leads =
      leads_placed (λ k. shares_of d (codes case (8 * r + k))) 8 (place_in_row case) (signs_at case) (places case h) _
      (leads_cong _ (λ k. shares_of d (codes case (8 * r + place_in_row case k))) 8 _ scores
      (leads_with _ _ 4 _ _ (leads_with _ _ 2 _ _ (leads_of_signs (share_of d o.first)) (leads_of_signs (share_of d o.second))) (leads_of_signs (share_of d o.marker))))
