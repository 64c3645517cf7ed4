-- A list that is written part by part. Assumes nothing.
use mathlib.Core.Path.{◌≡◌, refl, sym, ap, ◌∙◌}
use mathlib.Core.List.{List, ◌++◌, append_assoc}
use Prim.Native.Nat.{ℕ, ◌+◌, ◌-◌, ◌≤◌, ◌<◌}
use native.Mathlib.Nat.{zero-add, le_refl}
use native.Mathlib.Omega.{arith}
use lib.IntN.{ℤ, pos}
use lib.ListN.{length, get_or, take, drop, length-append, length-drop}
use lib.Seq.{length_front, length-take-le, drop_at, drop-drop}
use borrow.Rule.Slice.PartMut.{mid_of, put_mid, mid_len}
use Rattle.complex.specs.Buffers.{listed, written}
use Rattle.complex.proofs.Lists.{length_listed, listed_at, listed-++, take_written, all_written, listed_cong}

-- what is lent of a buffer after its first a entries came back
pub length_rest : {A : Type 0} (d ys : List A) (a : ℕ) → length ys ≡ length (take a d)
    → (let xs = ys ++ drop a d in length (mid_of a (length xs - a) xs) ≡ length d - a)
length_rest d ys a e = mid_len a _ (ys ++ drop a d) (le_refl _) ∙ ap (λ (n : ℕ). n - a) (length_front d ys a e)

module _ {A : Type 0} (f : ℕ → A) where
  -- writing keeps a buffer's length
  pub length_written : (d : List A) (n : ℕ) → n ≤ length d → length (written (listed n f) d) ≡ length d
  length_written d n h =
      omega (arith, length-append (listed n f) (drop (length (listed n f)) d), length-drop (length (listed n f)) d, length_listed f n)

  -- A buffer xs whose first a entries are written lends its next k, and a call fills them: the first b, a + k, are written.
  pub part_written : (xs d ys : List A) (g : ℕ → A) (a k b : ℕ) → xs ≡ written (listed a f) d → a + k ≡ b → b ≤ length d
      → ys ≡ listed (length (mid_of a k xs)) g → ((i : ℕ) → i < k → g i ≡ f (a + i)) → put_mid a k xs ys ≡ written (listed b f) d
  part_written xs d ys g a k b e s h q r =
      let l : length xs ≡ length d = ap length e ∙ length_written d a (omega arith) in
      let m : length (mid_of a k xs) ≡ k = length-take-le k (drop a xs) (omega (arith, length-drop a xs)) in
      let new : ys ≡ listed k (λ i. f (a + i)) = q ∙ ap (λ (n : ℕ). listed n g) m ∙ listed_cong k g (λ i. f (a + i)) r in
      let old : drop a xs ≡ drop a d =
      ap (drop a) e ∙ drop_at (listed a f) _ a (length_listed f a) ∙ ap (λ (n : ℕ). drop n d) (length_listed f a) in
      (λ j. (ap (take a) e ∙ take_written f d a) j ++ (new j ++ (ap (drop k) old ∙ drop-drop k a d) j))
      ∙ sym (append_assoc (listed a f) (listed k (λ i. f (a + i))) (drop (a + k) d))
      ∙ (λ j. (listed-++ f a k ∙ ap (λ (n : ℕ). listed n f) s) j ++ drop ((s ∙ sym (length_listed f b)) j) d)

  -- every entry is written
  pub filled : (xs d : List A) (n : ℕ) → xs ≡ written (listed n f) d → n ≡ length d → xs ≡ listed (length d) f
  filled xs d n e q = e ∙ ap (λ (k : ℕ). written (listed k f) d) q ∙ all_written f d (length d) refl

-- A buffer d of one component lends its first a entries, then the others, and two calls fill them.
pub two_parts : {A B : Type 0} (part : B → A) (f g h : ℕ → B) (d ys zs : List A) (a : ℕ) → a ≤ length d
    → ys ≡ listed (length (take a d)) (λ i. part (g i)) → ((i : ℕ) → i < a → g i ≡ f i)
    → (let xs = ys ++ drop a d in zs ≡ listed (length (mid_of a (length xs - a) xs)) (λ i. part (h i)))
    → ((i : ℕ) → a + i < length d → h i ≡ f (a + i))
    → (let xs = ys ++ drop a d in put_mid a (length xs - a) xs zs ≡ listed (length d) (λ i. part (f i)))
unfolding listed
two_parts part f g h d ys zs a l p q r s =
    let xs = ys ++ drop a d in
    let first : xs ≡ written (listed a (λ i. part (f i))) d =
    part_written (λ i. part (f i)) d d ys (λ i. part (g i)) 0 a a refl (omega arith) l p (λ i m. ap part (q i m ∙ ap f (sym (zero-add i)))) in
    let n : length xs ≡ length d = ap length first ∙ length_written (λ i. part (f i)) d a l in
    filled (λ i. part (f i)) _ d (length d)
    (part_written (λ i. part (f i)) xs d zs (λ i. part (h i)) a (length xs - a) (length d) first (omega (arith, n)) (omega arith) r (λ i m. ap part (s i (omega (arith, n))))) refl

-- The entries of sixteen, of one component, that `put` takes: from `from` on, and all of them.
module _ {B : Type 0} (part : B → ℤ) (f : ℕ → B) {x : List ℤ} (e : x ≡ listed 16 (λ i. part (f i))) where
  pub put_part : (n from : ℕ) {ys : List ℤ} → from + n ≤ 16 → ys ≡ listed n (λ i. get_or x (from + i) (pos 0)) → ys ≡ listed n (λ i. part (f (from + i)))
  put_part n from h q =
      q ∙ listed_cong n _ _ (λ i l. ap (λ (x : List ℤ). get_or x (from + i) (pos 0)) e ∙ listed_at (λ i. part (f i)) (pos 0) 16 (from + i) (omega arith))

  pub put_all : (n : ℕ) {ys : List ℤ} → n ≡ 16 → ys ≡ listed n (λ i. get_or x (0 + i) (pos 0)) → ys ≡ listed 16 (λ i. part (f i))
  put_all n h q =
      put_part n 0 (omega arith) q ∙ ap (λ (n : ℕ). listed n (λ i. part (f (0 + i)))) h ∙ listed_cong 16 _ _ (λ i l. ap (λ (k : ℕ). part (f k)) (zero-add i))
