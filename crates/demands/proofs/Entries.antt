-- The entries of the bench's tables that a code owns: each code has its own gain, what is written of its bits is read back, and no unrelated
-- code reads it. Assumes nothing.
use mathlib.Core.Path.{◌≡◌, refl, sym, ap, subst, ◌∙◌}
use mathlib.Core.Bool.{Bool, true, false, ◌&&◌, ◌||◌, cond, true≢false}
use mathlib.Core.List.{List}
use Prim.Native.Nat.{ℕ, ◌+◌, ◌*◌, ◌/◌, ◌%◌, ◌<◌, ◌≤◌}
use native.Mathlib.Decide.{ℕ_discrete}
use native.Mathlib.Nat.{mod-lt, div-add-mod', div-mul-le_self, lt-mul-div-succ, div-lt_iff_lt-mul, mul-div_cancel_left}
use native.Mathlib.Omega.{arith}
use borrow.Author.Tests.{eq-eqb, ne_eqb, lt-ltb}
use mir.Facts.{and_yes}
use lib.Arith.{digits_div, digits_mod}
use lib.Dec.{T, eqb, eqb→eq, ltb, ltb→lt}
use lib.ListN.{get_or}
use Rattle.complex.proofs.Lists.{listed_at}
use Rattle.codes.specs.Range.{each, any}
use Rattle.codes.specs.Tree.{is_code, is_spreading_factor, related, width, overlap}
use Rattle.codes.proofs.Factors.{of_factors, factor_range}
use Rattle.codes.proofs.Leaves.{each_code, at_code, related_overlap}
use Rattle.codes.proofs.Tests.{T_true, neither, none_at}
use Rattle.modulation.specs.Nodes.{node}
use Rattle.modulation.specs.Symbols.{pair}
use Rattle.slot.specs.Slot.{data_chip_count, bit_count}
use Rattle.slot.specs.View.{entry_of_pair, held_bit}
use Rattle.slot.proofs.Lengths.{lengths_of}
use Rattle.tables.specs.Bits.{is_entry_of, pair_of_entry, pairs_with_bits}
use Rattle.tables.proofs.Blocks.{IsCode, pairs_in_block}
use Rattle.bench.specs.BenchCalls.{some_code}

-- ---- codes
pub code_of : (Q k : ℕ) → is_code Q k ≡ true → IsCode Q k
code_of Q k e =
    let p = and_yes (is_spreading_factor Q) (ltb k Q) (subst T (sym e) tt) in
    let q = T_true (is_spreading_factor Q) p.0 in
    record { factor = q; below = ltb→lt k Q p.1; small = (factor_range Q q).1; listed = e }

-- a test that passes at no code
pub no_code_passes : (f : ℕ → ℕ → Bool) → some_code f ≡ false → (Q k : ℕ) → IsCode Q k → f Q k ≡ false
no_code_passes f e Q k c =
    let a = neither (any 1 (f 1) || any 2 (f 2) || any 4 (f 4) || any 8 (f 8)) (any 16 (f 16)) e in
    let b = neither (any 1 (f 1) || any 2 (f 2) || any 4 (f 4)) (any 8 (f 8)) a.0 in
    let d = neither (any 1 (f 1) || any 2 (f 2)) (any 4 (f 4)) b.0 in
    let g = neither (any 1 (f 1)) (any 2 (f 2)) d.0 in
    none_at Q (f Q) (of_factors (λ Q. any Q (f Q) ≡ false) g.0 g.1 d.1 b.1 a.1 Q c.factor) k c.below

-- ---- gains: two codes never share a node
own_node : ℕ → ℕ → Bool
own_node Q k = each_code (λ Q' k'. cond (eqb (node Q' k') (node Q k)) (eqb Q' Q && eqb k' k) true)

nodes_test : T (each_code own_node)
unfolding each_code own_node each
nodes_test = tt

module _ (Q k : ℕ) (c : IsCode Q k) where
  at_this : (f : ℕ → ℕ → Bool) → T (each_code f) → T (f Q k)
  at_this f t = at_code f t Q k (subst T (sym c.factor) tt) c.below

  pub node_below : node Q k < 31
  node_below = omega (arith, c.below, c.small)

pub same_node : (Q k Q' k' : ℕ) → IsCode Q k → IsCode Q' k' → node Q' k' ≡ node Q k → (Q' ≡ Q) × (k' ≡ k)
unfolding own_node
same_node Q k Q' k' c c' e =
    let t = at_this Q' k' c' _ (at_this Q k c own_node nodes_test) in
    let p = and_yes (eqb Q' Q) (eqb k' k) (rw (eq-eqb (node Q' k') (node Q k) e) at t) in
    (eqb→eq Q' Q p.0, eqb→eq k' k p.1)

-- ---- pairs
module _ (Q k : ℕ) (c : IsCode Q k) where
  -- the code has w entries in each block of 16, from entry k w of the block on
  abbrev w : ℕ
  w = width Q

  block : (0 < w) × (k * w + w ≤ 16)
  block = pairs_in_block Q k c.factor c.below

  -- where pair n stands: in block n / w
  at : (n : ℕ) → (n % w < w) × (entry_of_pair Q k n / 16 ≡ n / w) × (entry_of_pair Q k n % 16 ≡ k * w + n % w)
  at n = let l = mod-lt n block.0 in (l, omega (arith, block), omega (arith, block))

  -- this entry is the code's own, and that of pair n
  own_entry : (n : ℕ) → (is_entry_of Q k (entry_of_pair Q k n) ≡ true) × (pair_of_entry Q (entry_of_pair Q k n) ≡ n)
  own_entry n =
      let (l, e, f) = at n in
      (rw (f, digits_div k l) (eq-eqb k k refl), rw (e, f, digits_mod k l) (div-add-mod' n w))

  -- an unrelated code does not own it: the entries that both own are leaves below both
  other_entry : (Q' k' n : ℕ) → IsCode Q' k' → related Q k Q' k' ≡ false → is_entry_of Q' k' (entry_of_pair Q k n) ≡ false
  unfolding overlap
  other_entry Q' k' n c' r = ne_eqb (i / width Q') k' (λ e. true≢false (sym (both e) ∙ r))
    where
      i : ℕ
      i = entry_of_pair Q k n % 16

      both : i / width Q' ≡ k' → related Q k Q' k' ≡ true
      both e =
          let some = (pairs_in_block Q' k' c'.factor c'.below).0 in
          let from : k' * width Q' ≤ i = rw e at (div-mul-le_self i (width Q')) in
          let to : i < width Q' * (k' + 1) = rw e at (lt-mul-div-succ i some) in
          let p = at n in
          related_overlap Q k Q' k' c.below c'.below
          ∙ rw (lt-ltb (k * w) (k' * width Q' + width Q') (omega arith), lt-ltb (k' * width Q') (k * w + w) (omega arith))

  -- 2 w bits a block
  count : (t : ℕ) → bit_count t Q ≡ 2 * (data_chip_count t / 16 * w)
  count t =
      let d = data_chip_count t in
      let e : Q * w ≡ 16 = of_factors (λ Q. Q * width Q ≡ 16) refl refl refl refl refl Q c.factor in
      let h : d % 16 ≡ 0 = (lengths_of t).chips in
      let s : 16 * (d / 16) ≡ Q * w * (d / 16) = ap (λ (n : ℕ). n * (d / 16)) (sym e) in
      let r : 2 * d ≡ Q * (2 * (d / 16 * w)) = omega arith in
      ap (λ (n : ℕ). n / Q) r ∙ mul-div_cancel_left (2 * (d / 16 * w)) (factor_range Q c.factor).0

  -- the pair of each of the code's bits stands in the table
  inside : (t i : ℕ) → i < bit_count t Q → entry_of_pair Q k (i / 2) < 2208
  inside t i l =
      let e = count t in
      let m : i / 2 / w < data_chip_count t / 16 = (div-lt_iff_lt-mul block.0).1 (omega arith) in
      omega (arith, (lengths_of t).pairs, mod-lt (i / 2) block.0, block)

-- ---- the bits read after bits were written for code (Q, k)
module _ (pairs : List ℕ) (Q k : ℕ) (c : IsCode Q k) (bits : List ℕ) (t i : ℕ) where
  abbrev new : List ℕ
  new = pairs_with_bits pairs Q k bits

  -- an entry, and one of its two bits
  entry : (n : ℕ) → n < 2208 → get_or new n 0 ≡ cond (is_entry_of Q k n) (pair bits (pair_of_entry Q n)) (get_or pairs n 0)
  unfolding pairs_with_bits
  entry n l = listed_at _ 0 2208 n l

  abbrev bit : ℕ → ℕ
  bit n = cond (eqb (i % 2) 0) (n / 2) (n % 2)

  -- of the code itself the new ones
  pub own_bit : ((j : ℕ) → get_or bits j 0 ≤ 1) → i < bit_count t Q → held_bit new Q k i ≡ get_or bits i 0
  own_bit small l =
      let own = own_entry Q k c (i / 2) in
      ap bit (entry (entry_of_pair Q k (i / 2)) (inside Q k c t i l) ∙ rw (own.0, own.1))
      ∙ go (small (2 * (i / 2))) (small (2 * (i / 2) + 1)) (ℕ_discrete (i % 2) 0)
    where
      given : ℕ → ℕ
      given j = get_or bits j 0

      go : given (2 * (i / 2)) ≤ 1 → given (2 * (i / 2) + 1) ≤ 1 → Dec (i % 2 ≡ 0) → bit (pair bits (i / 2)) ≡ given i
      go a b (yes e) = let f : 2 * (i / 2) ≡ i = omega arith in rw (eq-eqb (i % 2) 0 e) (omega (arith, ap given f))
      go a b (no e) = let f : 2 * (i / 2) + 1 ≡ i = omega arith in rw (ne_eqb (i % 2) 0 e) (omega (arith, ap given f))

  -- of an unrelated code the old ones
  pub other_bit : (Q' k' : ℕ) → IsCode Q' k' → related Q' k' Q k ≡ false → i < bit_count t Q' → held_bit new Q' k' i ≡ held_bit pairs Q' k' i
  other_bit Q' k' c' r l =
      ap bit (entry (entry_of_pair Q' k' (i / 2)) (inside Q' k' c' t i l) ∙ rw (other_entry Q' k' c' Q k (i / 2) c r))
