-- `correlate` meets its contract: the buffers hold the steps of the Golay sequence. Assumes nothing.
use mathlib.Core.Path.{◌≡◌, ap, ◌∙◌, subst}
use mathlib.Core.List.{List}
use Prim.Native.Nat.{ℕ, ◌+◌, ◌-◌, ◌≤◌}
use native.Mathlib.Omega.{arith}
use borrow.Author.Rules.{rules}
use lib.Dec.{lit≤}
use lib.IntN.{ℤ, pos}
use lib.ListN.{length, take}
use Rattle.complex.specs.Buffers.{listed, written, ◌at◌}
use Rattle.complex.specs.Fits.{Within, Bound}
use Rattle.find.specs.PeakSearch.{four_of}
use Rattle.complex.proofs.Lists.{length_listed, listed_at, take_written}
use Rattle.find.proofs.Golay.{bound_held, entry_held, four_held, four_within, minus_pairs, plus_pairs, step_1, step_2, whole_held}
use Rattle.find.proofs.finding.correlate.Goals as goal

-- ---- what the buffers hold after each step, for the chips x
first_holds : (x : List ℤ) {t : List ℤ} (d : List ℤ) → t ≡ written (listed (length x - 9) (step_1 x)) d → take (length x - 9) t ≡ listed (length x - 9) (step_1 x)
first_holds x d e = ap (take (length x - 9)) e ∙ take_written (step_1 x) d (length x - 9)

module _ (x : List ℤ) (long : 256 ≤ length x) where
  abbrev n : ℕ
  n = length x

  second_holds : {t y : List ℤ} (d d' : List ℤ) → t ≡ written (listed (n - 9) (step_1 x)) d
      → y ≡ written (listed (n - 15) (four_of (◌at◌ (take (n - 9) t)) 2 4 6)) d' → take (n - 15) y ≡ listed (n - 15) (step_2 x)
  unfolding ◌at◌
  second_holds {t} d d' f e =
      four_held (n - 15) (n - 9) (◌at◌ (take (n - 9) t)) (step_1 x) 2 4 6 d' (lit≤ tt) (lit≤ tt) (lit≤ tt)
      (λ k l. ap (λ (z : List ℤ). z at k) (first_holds x d f) ∙ listed_at (step_1 x) (pos 0) (n - 9) k l) (omega arith) (omega arith) (omega arith) e

  third_holds : (b c : ℕ) (y d : List ℤ) {z : List ℤ} → b ≤ 48 → c ≤ 48 → take (n - 15) y ≡ listed (n - 15) (step_2 x)
      → z ≡ written (listed (n - 63) (four_of (◌at◌ y) 32 b c)) d → take (n - 63) z ≡ listed (n - 63) (four_of (step_2 x) 32 b c)
  third_holds b c y d h g f e =
      four_held (n - 63) (n - 15) (◌at◌ y) (step_2 x) 32 b c d (lit≤ tt) h g (entry_held y (n - 15) (step_2 x) f) (omega arith) (omega arith) (omega arith) e

  -- the entries that the last step reads
  places : n - 63 ≡ n - 255 + 192
  places = omega arith

second_within : {x : List ℤ} → Bound 100000 x → (i : ℕ) → Within 1600000 (step_2 x i)
unfolding ◌at◌
second_within h i = four_within (λ k. four_within h.at 1 8 9 k) 2 4 6 i

pub sums-requires-2 : goal.sums-requires-2
unfolding ◌at◌
sums-requires-2 c =
    let x = c.args.x.now in
    let one = first_holds x _ c.sums.ensures in
    let l = ap length one ∙ length_listed (step_1 x) (length x - 9) in
    (omega arith, omega arith, omega arith, omega arith, omega arith, bound_held c.sums.new.y 400000 (length x - 9) (step_1 x) one (λ i. four_within c.requires.4.at 1 8 9 i))

pub pairs-requires : goal.pairs-requires
pairs-requires c =
    let x = c.args.x.now in
    let y = c.sums-2.new.y in
    let two = second_holds x c.requires.0 _ _ c.sums.ensures c.sums-2.ensures in
    let e : length x - 15 ≡ length x - 63 + 48 = omega arith in
    (omega arith, omega arith, omega arith, subst (λ (m : ℕ). Bound 1600000 (take m y)) e (bound_held y 1600000 (length x - 15) (step_2 x) two (second_within c.requires.4)))

pub whole-requires : goal.whole-requires
whole-requires c =
    let x = c.args.x.now in
    let y = c.pairs.new.y in
    let t = c.pairs.new.t in
    let two = second_holds x c.requires.0 _ _ c.sums.ensures c.sums-2.ensures in
    let plus = third_holds x c.requires.0 16 48 _ _ (lit≤ tt) (lit≤ tt) two c.pairs.ensures.0 in
    let minus = third_holds x c.requires.0 48 16 _ _ (lit≤ tt) (lit≤ tt) two c.pairs.ensures.1 in
    let e = places x c.requires.0 in
    let within = second_within c.requires.4 in (
      omega arith,
      omega arith,
      omega arith,
      subst (λ (m : ℕ). Bound 6400000 (take m y)) e (bound_held y 6400000 (length x - 63) (plus_pairs x) plus (λ i. four_within within 32 16 48 i)),
      subst (λ (m : ℕ). Bound 6400000 (take m t)) e (bound_held t 6400000 (length x - 63) (minus_pairs x) minus (λ i. four_within within 32 48 16 i)),
    )

pub returns : goal.returns
returns c =
    let x = c.args.x.now in
    let y = c.pairs.new.y in
    let t = c.pairs.new.t in
    let two = second_holds x c.requires.0 _ _ c.sums.ensures c.sums-2.ensures in
    let plus = third_holds x c.requires.0 16 48 _ _ (lit≤ tt) (lit≤ tt) two c.pairs.ensures.0 in
    let minus = third_holds x c.requires.0 48 16 _ _ (lit≤ tt) (lit≤ tt) two c.pairs.ensures.1 in
    let e = places x c.requires.0 in (
      whole_held x (length x - 255) (◌at◌ y) (◌at◌ t) _
          (λ k l. entry_held y (length x - 63) (plus_pairs x) plus k (omega arith))
          (λ k l. entry_held t (length x - 63) (minus_pairs x) minus k (omega arith)) c.whole.ensures,
      search rules,
      search rules,
    )
