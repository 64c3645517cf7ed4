-- Laws of the lists that a loop writes. Assumes nothing.
use mathlib.Core.Path.{◌≡◌, refl, sym, ap, ap₂, ◌∙◌}
use mathlib.Core.List.{List, [], ◌∷◌, ◌++◌, append_assoc, append-nil}
use Prim.Native.Nat.{ℕ, zero, suc, ◌+◌, ◌<◌}
use native.Mathlib.Nat.{not-suc-le-zero, add-zero, add-suc}
use native.Mathlib.Numerals.{add-one}
use native.Mathlib.Decide.{ℕ_discrete}
use native.Mathlib.Omega.{arith}
use lib.IntN.{pos}
use lib.ListN.{length, get_or, set, take, drop, length-append, drop_of_length-le, get_or-append}
use lib.Seq.{drop-cons, set_at, take_at, get_or_at}
use Rattle.complex.specs.declared.Complex.{Complex}
use Rattle.complex.specs.Buffers.{value, listed, written, in_buffers}
use Rattle.complex.proofs.Ring.{by_components}

module _ {A : Type 0} (f : ℕ → A) where
  pub length_listed : (n : ℕ) → length (listed n f) ≡ n
  unfolding listed
  length_listed zero = refl
  length_listed (suc n) = length-append (listed n f) (f n ∷ []) ∙ rw (length_listed n) (add-one n)

  pub listed_at : (d : A) (n k : ℕ) → k < n → get_or (listed n f) k d ≡ f k
  unfolding listed
  listed_at d zero k l = absurd (not-suc-le-zero l)
  listed_at d (suc n) k l = pick (ℕ_discrete k n) (λ m. listed_at d n k m)
    where
      pick : Dec (k ≡ n) → (k < n → get_or (listed n f) k d ≡ f k) → get_or (listed n f ++ (f n ∷ [])) k d ≡ f k
      pick (yes e) r = get_or_at (listed n f) (f n) [] d k (length_listed n ∙ sym e) ∙ ap f (sym e)
      pick (no e) r =
          let m : k < n = omega arith in
          get_or-append (listed n f) (f n ∷ []) d k (rw (length_listed n) m) ∙ r m

  -- a list in two parts
  pub listed-++ : (m n : ℕ) → listed m f ++ listed n (λ i. f (m + i)) ≡ listed (m + n) f
  unfolding listed
  listed-++ m zero = append-nil (listed m f) ∙ ap (λ (k : ℕ). listed k f) (sym (add-zero m))
  listed-++ m (suc n) =
      sym (append_assoc (listed m f) (listed n (λ i. f (m + i))) (f (m + n) ∷ []))
      ∙ ap (λ (l : List A). l ++ (f (m + n) ∷ [])) (listed-++ m n)
      ∙ ap (λ (k : ℕ). listed k f) (sym (add-suc m n))

  -- a loop writes entry n
  pub one_more_written : (d : List A) (n : ℕ) → n < length d → set (written (listed n f) d) n (f n) ≡ written (listed (n + 1) f) d
  unfolding listed
  one_more_written d n l =
      ap (λ (t : List A). set (listed n f ++ t) n (f n)) (ap (λ (k : ℕ). drop k d) (length_listed n) ∙ drop-cons d n (f n) l)
      ∙ set_at (listed n f) (get_or d n (f n)) (drop (suc n) d) (f n) n (length_listed n)
      ∙ sym (append_assoc (listed n f) (f n ∷ []) (drop (suc n) d))
      ∙ ap (λ (k : ℕ). listed (suc n) f ++ drop k d) (sym (length_listed (suc n)))
      ∙ ap (λ (k : ℕ). written (listed k f) d) (sym (add-one n))

  -- the written entries alone
  pub take_written : (d : List A) (n : ℕ) → take n (written (listed n f) d) ≡ listed n f
  take_written d n = take_at (listed n f) (drop (length (listed n f)) d) n (length_listed n)

  -- a loop has written every entry
  pub all_written : (d : List A) (n : ℕ) → length d ≡ n → written (listed n f) d ≡ listed n f
  all_written d n e =
      ap (λ (t : List A). listed n f ++ t) (drop_of_length-le d {i = length (listed n f)} (omega (arith, length_listed n)))
      ∙ append-nil (listed n f)

-- equal entries, equal lists
pub listed_cong : {A : Type 0} (n : ℕ) (f g : ℕ → A) → ((i : ℕ) → i < n → f i ≡ g i) → listed n f ≡ listed n g
unfolding listed
listed_cong zero f g h = refl
listed_cong {A} (suc n) f g h = ap₂ (λ (l : List A) (x : A). l ++ (x ∷ [])) (listed_cong n f g (λ i l. h i (omega arith))) (h n (omega arith))

-- values put in buffers, and taken out
pub value_in_buffers : (n : ℕ) (f : ℕ → Complex) (k : ℕ) → k < n → value (in_buffers n f).re (in_buffers n f).im k ≡ f k
value_in_buffers n f k l = by_components (listed_at (λ i. (f i).re) (pos 0) n k l) (listed_at (λ i. (f i).im) (pos 0) n k l)
