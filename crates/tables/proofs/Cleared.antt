-- Opening a code clears its pairs, so once codes were opened in turn the pairs of every open code are cleared. Assumes nothing.
use mathlib.Core.Path.{◌≡◌, refl, sym, ap, subst, ◌∙◌}
use mathlib.Core.Logic.{◌≢◌}
use mathlib.Core.Bool.{Bool, true, false, ◌||◌, cond}
use mathlib.Core.List.{List, []}
use Prim.Native.Nat.{ℕ, zero, suc, ◌/◌, ◌%◌, ◌<◌}
use native.Mathlib.Decide.{ℕ_discrete}
use native.Mathlib.Omega.{arith}
use borrow.Author.Tests.{eq-eqb, ne_eqb}
use lib.Dec.{T, eqb}
use lib.ListN.{length, get_or, set, replicate}
use lib.Seq.{ext_get_or, get_or-set_same, get_or-set_other}
use Rattle.complex.specs.Buffers.{listed}
use Rattle.complex.proofs.Lists.{length_listed, listed_at, listed_cong}
use Rattle.codes.specs.Range.{each, any}
use Rattle.codes.specs.Tree.{is_spreading_factor}
use Rattle.codes.proofs.Leaves.{each_code, at_code}
use Rattle.codes.proofs.Tests.{agree, agree→eq, each_at, none_at, T_true}
use Rattle.modulation.specs.Symbols.{pair}
use Rattle.modulation.specs.Nodes.{node, open_at}
use Rattle.tables.specs.Bits.{is_entry_of, pair_of_entry, pairs_with_bits}
use Rattle.tables.specs.OpenCodes.{is_leaf_open, some_over}
use Rattle.tables.specs.PairChanges.{cleared, with_open_cleared}
use Rattle.tables.proofs.Blocks.{IsCode}

-- ---- the leaves below open codes
-- among the codes that have leaf l is the one whose gain stands at n
unfoldable has_leaf : ℕ → ℕ → Bool
has_leaf n = some_over (λ Q k. eqb (node Q k) n)

unfoldable leaves_test : ℕ → ℕ → Bool
leaves_test Q k = each 16 (λ l. agree (has_leaf (node Q k) l) (is_entry_of Q k l))

every_leaf : T (each_code leaves_test)
unfolding each_code leaves_test each agree has_leaf
every_leaf = tt

-- each code has a leaf
unfoldable some_leaf : ℕ → ℕ → Bool
some_leaf Q k = any 16 (is_entry_of Q k)

every_code : T (each_code some_leaf)
unfolding each_code some_leaf each any
every_code = tt

pairwise : (a b c d : Bool) → ((a || b) || (c || d)) ≡ ((a || c) || (b || d))
pairwise true b c d = refl
pairwise false true true d = refl
pairwise false true false d = refl
pairwise false false c d = refl

over_either : (f g : ℕ → ℕ → Bool) (l : ℕ) → some_over (λ Q k. f Q k || g Q k) l ≡ (some_over f l || some_over g l)
over_either f g l =
    let a = f 1 (l / 16) in
    let b = f 2 (l / 8) in
    let c = f 4 (l / 4) in
    let d = f 8 (l / 2) in
    let a' = g 1 (l / 16) in
    let b' = g 2 (l / 8) in
    let c' = g 4 (l / 4) in
    let d' = g 8 (l / 2) in
    let last = f 16 (l / 1) || g 16 (l / 1) in
    ap (λ (t : Bool). t || (c || c') || (d || d') || last) (pairwise a a' b b') ∙ ap (λ (t : Bool). t || (d || d') || last) (pairwise (a || b) (a' || b') c c')
    ∙ ap (λ (t : Bool). t || last) (pairwise (a || b || c) (a' || b' || c') d d') ∙ pairwise (a || b || c || d) (a' || b' || c' || d') (f 16 (l / 1)) (g 16 (l / 1))

any_either : (n : ℕ) (f g : ℕ → Bool) → any n (λ i. f i || g i) ≡ (any n f || any n g)
unfolding any
any_either zero f g = refl
any_either (suc n) f g = ap (λ (t : Bool). (f n || g n) || t) (any_either n f g) ∙ pairwise (f n) (g n) (any n f) (any n g)

any_cong : (n : ℕ) (f g : ℕ → Bool) → ((i : ℕ) → i < n → f i ≡ g i) → any n f ≡ any n g
unfolding any
any_cong zero f g h = refl
any_cong (suc n) f g h = λ i. h n (omega arith) i || any_cong n f g (λ k l. h k (omega arith)) i

-- once the code whose gain stands at n has gain x
module _ (g : List ℕ) (n x : ℕ) (l : n < length g) (d : x ≢ 0) where
  open_set : (Q k : ℕ) → open_at (set g n x) Q k ≡ (eqb (node Q k) n || open_at g Q k)
  open_set Q k = go (ℕ_discrete (node Q k) n)
    where
      go : Dec (node Q k ≡ n) → open_at (set g n x) Q k ≡ (eqb (node Q k) n || open_at g Q k)
      go (yes e) = rw (eq-eqb (node Q k) n e, e, get_or-set_same g n x 0 l, ne_eqb x 0 d)
      go (no e) = rw (ne_eqb (node Q k) n e, get_or-set_other g n (node Q k) x 0 e)

  leaf_set : (i : ℕ) → is_leaf_open (set g n x) i ≡ (has_leaf n i || is_leaf_open g i)
  unfolding is_leaf_open has_leaf
  leaf_set i = (λ j. some_over (λ Q k. open_set Q k j) i) ∙ over_either (λ Q k. eqb (node Q k) n) (open_at g) i

-- ---- the pairs where the codes of these gains are open
module _ (g p : List ℕ) where
  one_cleared : (i : ℕ) → i < 2208 → get_or (cleared p (listed 16 (is_leaf_open g))) i 0 ≡ cond (is_leaf_open g (i % 16)) 0 (get_or p i 0)
  unfolding cleared
  one_cleared i l =
      listed_at _ 0 2208 i l ∙ ap (λ (t : Bool). cond t 0 (get_or p i 0)) (listed_at (is_leaf_open g) false 16 (i % 16) (omega arith))

  one_entry : (i : ℕ) → i < 2208 → get_or (with_open_cleared g p) i 0 ≡ cond (is_leaf_open g (i % 16)) 0 (get_or p i 0)
  unfolding with_open_cleared
  one_entry i l = go (any 16 (is_leaf_open g)) refl
    where
      go : (b : Bool) → any 16 (is_leaf_open g) ≡ b
          → get_or (cond b (cleared p (listed 16 (is_leaf_open g))) p) i 0 ≡ cond (is_leaf_open g (i % 16)) 0 (get_or p i 0)
      go true e = one_cleared i l
      go false e = rw (none_at 16 (is_leaf_open g) e (i % 16) (omega arith))

  all_written : length (cleared p (listed 16 (is_leaf_open g))) ≡ 2208
  unfolding cleared
  all_written = length_listed _ 2208

  -- a list is known by its length and its entries
  pub all_cleared : length p ≡ 2208 → cleared p (listed 16 (is_leaf_open g)) ≡ with_open_cleared g p
  unfolding with_open_cleared
  all_cleared len = go (any 16 (is_leaf_open g)) refl
    where
      go : (b : Bool) → any 16 (is_leaf_open g) ≡ b → cleared p (listed 16 (is_leaf_open g)) ≡ cond b (cleared p (listed 16 (is_leaf_open g))) p
      go true e = refl
      go false e =
          ext_get_or 0 _ p (all_written ∙ sym len)
          (λ i l. one_cleared i (omega (arith, all_written)) ∙ rw (none_at 16 (is_leaf_open g) e (i % 16) (omega arith)))

-- ---- a code is opened
module _ (g : List ℕ) (Q k x : ℕ) (c : IsCode Q k) (d : x ≢ 0) (len : length g ≡ 31) where
  abbrev next : List ℕ
  next = set g (node Q k) x

  inside : node Q k < length g
  inside = let l = c.below in let s = c.small in omega arith

  factor : T (is_spreading_factor Q)
  factor = subst T (sym c.factor) tt

  leaf_opened : (l : ℕ) → l < 16 → is_leaf_open next l ≡ (is_entry_of Q k l || is_leaf_open g l)
  unfolding leaves_test
  leaf_opened l m =
      leaf_set g (node Q k) x inside d l
      ∙ ap (λ (t : Bool). t || is_leaf_open g l) (agree→eq _ _ (each_at 16 _ (at_code leaves_test every_leaf Q k factor c.below) l m))

  some_opened : any 16 (is_leaf_open next) ≡ true
  unfolding some_leaf
  some_opened =
      any_cong 16 (is_leaf_open next) (λ l. is_entry_of Q k l || is_leaf_open g l) leaf_opened ∙ any_either 16 (is_entry_of Q k) (is_leaf_open g)
      ∙ ap (λ (t : Bool). t || any 16 (is_leaf_open g)) (T_true (any 16 (is_entry_of Q k)) (at_code some_leaf every_code Q k factor c.below))

  some_cleared : (p : List ℕ) → listed 2208 (λ i. cond (get_or (listed 16 (is_leaf_open next)) (i % 16) false) 0 (get_or p i 0)) ≡ with_open_cleared next p
  unfolding with_open_cleared cleared
  some_cleared p = rw some_opened

  -- its pairs are cleared like those of the codes that were open
  pub one_more_open : (p : List ℕ) → pairs_with_bits (with_open_cleared g p) Q k [] ≡ with_open_cleared next p
  unfolding pairs_with_bits
  one_more_open p = listed_cong 2208 _ _ entry ∙ some_cleared p
    where
      both : (s t : Bool) (y : ℕ) → cond s 0 (cond t 0 y) ≡ cond (s || t) 0 y
      both true t y = refl
      both false t y = refl

      entry : (i : ℕ) → i < 2208
          → cond (is_entry_of Q k i) (pair [] (pair_of_entry Q i)) (get_or (with_open_cleared g p) i 0) ≡ cond (get_or (listed 16 (is_leaf_open next)) (i % 16) false) 0 (get_or p i 0)
      entry i l =
          let e : i % 16 % 16 ≡ i % 16 = omega arith in
          let o : is_leaf_open next (i % 16) ≡ (is_entry_of Q k i || is_leaf_open g (i % 16)) = rw e at (leaf_opened (i % 16) (omega arith)) in
          ap (cond (is_entry_of Q k i) 0) (one_entry g p i l) ∙ both (is_entry_of Q k i) (is_leaf_open g (i % 16)) (get_or p i 0)
          ∙ ap (λ (t : Bool). cond t 0 (get_or p i 0)) (sym (listed_at (is_leaf_open next) false 16 (i % 16) (omega arith) ∙ o))

-- where it is the first, its pairs alone are
pub first_open : (Q k : ℕ) → IsCode Q k → (p : List ℕ) → pairs_with_bits p Q k [] ≡ with_open_cleared (set (replicate 31 0) (node Q k) 1) p
unfolding with_open_cleared any is_leaf_open
first_open Q k c p = one_more_open (replicate 31 0) Q k 1 c (λ e. omega arith) refl p
