-- Readings at Q 16: the sum over sixteen chips is one over four lanes. Assumes nothing.
use mathlib.Core.Path.{◌≡◌, sym, ap, ◌∙◌}
use mathlib.Core.Bool.{Bool, true, false, cond}
use mathlib.Core.List.{List}
use Prim.Native.Nat.{ℕ, ◌+◌, ◌*◌, ◌/◌, ◌%◌, ◌<◌}
use native.Mathlib.Omega.{arith}
use lib.Dec.{eqb}
use lib.IntN.{ℤ, pos}
use Rattle.complex.specs.declared.Complex.{Complex}
use Rattle.complex.specs.Arithmetic.{real, 𝟎, ◌⊕◌, ◌⊗◌, conj, j^, Σ<}
use Rattle.complex.specs.Buffers.{listed, ◌at◌}
use Rattle.complex.specs.Fits.{Both}
use Rattle.complex.proofs.Components.{both-⊕, both_sign}
use Rattle.complex.proofs.Lists.{listed_at}
use Rattle.complex.proofs.Ring.{sums, ⊗-⊕, ⊗-assoc, ⊗-comm, 𝟎-⊕}
use Rattle.complex.proofs.Sums.{Σ_cong}
use Rattle.codes.specs.Scrambling.{scrambling_element}
use Rattle.codes.specs.Tree.{element}
use Rattle.read.specs.Multipliers.{multiplier, place_sign, is_sign, Signs, lane, lanes_of, from_lanes}
use Rattle.read.specs.Reading.{reading}
use Rattle.read.proofs.Signs.{sign_within, place_sign_is, placed, multiplier_is}

-- ---- the sum over sixteen chips, by lanes
in_lanes : (f : ℕ → Complex) → Σ< 16 (λ i. placed i (f i))
    ≡ (f 1 ⊕ f 5 ⊕ f 9 ⊕ f 13) ⊕ (f 3 ⊕ f 7 ⊕ f 11 ⊕ f 15) ⊕ j^ 1 ⊗ ((f 0 ⊕ f 4 ⊕ f 8 ⊕ f 12) ⊕ (f 2 ⊕ f 6 ⊕ f 10 ⊕ f 14))
unfolding Σ<
in_lanes f = by (f 0) (f 1) (f 2) (f 3) (f 4) (f 5) (f 6) (f 7) (f 8) (f 9) (f 10) (f 11) (f 12) (f 13) (f 14) (f 15)
  where
    by : (x0 x1 x2 x3 x4 x5 x6 x7 x8 x9 x10 x11 x12 x13 x14 x15 : Complex)
        → (((((((((((((((𝟎 ⊕ j^ 1 ⊗ x0) ⊕ x1) ⊕ j^ 1 ⊗ x2) ⊕ x3) ⊕ j^ 1 ⊗ x4) ⊕ x5) ⊕ j^ 1 ⊗ x6) ⊕ x7) ⊕ j^ 1 ⊗ x8) ⊕ x9) ⊕ j^ 1 ⊗ x10) ⊕ x11) ⊕ j^ 1 ⊗ x12) ⊕ x13) ⊕ j^ 1 ⊗ x14) ⊕ x15
        ≡ (x1 ⊕ x5 ⊕ x9 ⊕ x13) ⊕ (x3 ⊕ x7 ⊕ x11 ⊕ x15) ⊕ j^ 1 ⊗ ((x0 ⊕ x4 ⊕ x8 ⊕ x12) ⊕ (x2 ⊕ x6 ⊕ x10 ⊕ x14))
    by x0 x1 x2 x3 x4 x5 x6 x7 x8 x9 x10 x11 x12 x13 x14 x15 = simp (sums, ⊗-⊕, 𝟎-⊕)

module _ (p k : ℕ) (chip : ℕ → Complex) (n : ℕ) where
  -- a chip with its sign
  signed : ℕ → Complex
  signed i = real (place_sign p k i) ⊗ chip (16 * n + i)

  term : (i : ℕ) → i < 16 → chip (n * 16 + i) ⊗ conj (scrambling_element p (1 + (n * 16 + i) % 16)) ⊗ real (element 16 k i) ≡ placed i (signed i)
  unfolding multiplier signed
  term i l =
      let m : (n * 16 + i) % 16 ≡ i = omega arith in
      let m' : 1 + (n * 16 + i) % 16 ≡ i + 1 = omega arith in
      let c : i ≡ i % 16 = omega arith in
      let from : n * 16 + i ≡ 16 * n + i = omega arith in
      ⊗-assoc (chip (n * 16 + i)) _ _
      ∙ (λ j. chip (from j) ⊗ (conj (scrambling_element p (m' j)) ⊗ real (element 16 k (c j))))
      ∙ ap (λ (w : Complex). chip (16 * n + i) ⊗ w) (multiplier_is p k i l)
      ∙ by (eqb (i % 2) 0)
    where
      by : (t : Bool) → chip (16 * n + i) ⊗ cond t (j^ 1 ⊗ real (place_sign p k i)) (real (place_sign p k i))
          ≡ cond t (j^ 1 ⊗ (real (place_sign p k i) ⊗ chip (16 * n + i))) (real (place_sign p k i) ⊗ chip (16 * n + i))
      by true = ⊗-comm (chip (16 * n + i)) (j^ 1 ⊗ real (place_sign p k i)) ∙ ⊗-assoc (j^ 1) (real (place_sign p k i)) (chip (16 * n + i))
      by false = ⊗-comm (chip (16 * n + i)) (real (place_sign p k i))

  pub from_lanes_is : from_lanes (lanes_of (place_sign p k) chip) n ≡ reading p 16 k chip n
  unfolding from_lanes lane reading signed
  from_lanes_is =
      let d₀ : 4 * n / 4 ≡ n = omega arith in
      let d₁ : (4 * n + 1) / 4 ≡ n = omega arith in
      let d₂ : (4 * n + 2) / 4 ≡ n = omega arith in
      let d₃ : (4 * n + 3) / 4 ≡ n = omega arith in
      let m₀ : 4 * n % 4 ≡ 0 = omega arith in
      let m₁ : (4 * n + 1) % 4 ≡ 1 = omega arith in
      let m₂ : (4 * n + 2) % 4 ≡ 2 = omega arith in
      let m₃ : (4 * n + 3) % 4 ≡ 3 = omega arith in
      rw (d₀, d₁, d₂, d₃, m₀, m₁, m₂, m₃) (sym (Σ_cong 16 _ _ term ∙ in_lanes signed))

-- ---- the scratch
-- a lane's size
pub lane_both : (s : ℕ → ℤ) (chip : ℕ → Complex) → ((i : ℕ) → i < 16 → is_sign (s i) ≡ true) → ((n : ℕ) → Both 100000 (chip n))
    → (from l : ℕ) → l < 4 → Both 400000 (lane s chip from l)
unfolding lane
lane_both s chip h g from l m =
    both-⊕ (both-⊕ (both-⊕ (one l (omega arith)) (one (l + 4) (omega arith))) (one (l + 8) (omega arith))) (one (l + 12) (omega arith))
  where
    one : (i : ℕ) → i < 16 → Both 100000 (real (s i) ⊗ chip (from + i))
    one i k = both_sign (g (from + i)) (sign_within (s i) (h i k))

-- only the lanes of the reading count
pub from_lanes_cong : (f g : ℕ → Complex) (m : ℕ) → ((c : ℕ) → c < 4 * m + 4 → f c ≡ g c) → from_lanes f m ≡ from_lanes g m
unfolding from_lanes
from_lanes_cong f g m h =
    let a = h (4 * m) (omega arith) in
    let b = h (4 * m + 1) (omega arith) in
    let c = h (4 * m + 2) (omega arith) in
    let d = h (4 * m + 3) (omega arith) in
    λ j. b j ⊕ d j ⊕ j^ 1 ⊗ (a j ⊕ c j)

lane_cong : (s t : ℕ → ℤ) (chip : ℕ → Complex) (from l : ℕ) → l < 4 → ((i : ℕ) → i < 16 → s i ≡ t i) → lane s chip from l ≡ lane t chip from l
unfolding lane
lane_cong s t chip from l h e =
    let x : ℕ → ℤ → Complex = λ i z. real z ⊗ chip (from + i) in
    let a = e l (omega arith) in
    let b = e (l + 4) (omega arith) in
    let c = e (l + 8) (omega arith) in
    let d = e (l + 12) (omega arith) in
    λ j. x l (a j) ⊕ x (l + 4) (b j) ⊕ x (l + 8) (c j) ⊕ x (l + 12) (d j)

-- the sixteen signs as a list
module _ (p k : ℕ) {s : List ℤ} (e : s ≡ listed 16 (place_sign p k)) where
  sign_at : (i : ℕ) → i < 16 → s at i ≡ place_sign p k i
  unfolding ◌at◌
  sign_at i l = ap (λ (t : List ℤ). t at i) e ∙ listed_at (place_sign p k) (pos 0) 16 i l

  pub signs_are : p < 128 → k < 16 → Signs s
  signs_are hp hk = record { each = λ i l. ap is_sign (sign_at i l) ∙ place_sign_is p k hp hk i l }

  -- readings of the lanes
  pub readings_are : (chip y : ℕ → Complex) (n : ℕ) → ((c : ℕ) → c < 4 * n → y c ≡ lanes_of (◌at◌ s) chip c) → (m : ℕ) → m < n
      → from_lanes y m ≡ reading p 16 k chip m
  readings_are chip y n h m l =
      from_lanes_cong y (lanes_of (place_sign p k) chip) m
      (λ c g. h c (omega arith) ∙ lane_cong (◌at◌ s) (place_sign p k) chip (16 * (c / 4)) (c % 4) (omega arith) sign_at)
      ∙ from_lanes_is p k chip m
