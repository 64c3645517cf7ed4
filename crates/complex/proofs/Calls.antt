-- An array of what a closure makes of 0, 1, .. is the list of it: the law of `array::from_fn` for a closure that its calls leave as it was. Assumes nothing.
use mathlib.Core.Path.{◌≡◌, refl, sym, subst, ◌∙◌}
use mathlib.Core.List.{List}
use Prim.Native.Nat.{ℕ, zero, suc, ◌+◌, ◌<◌, ◌≤◌}
use native.Mathlib.Decide.{ℕ_discrete}
use native.Mathlib.Omega.{arith}
use lib.ListN.{get_or}
use denote.Param.Members.{Mut, Called}
use Rattle.std.specs.Array.{IsFromFnResult, IsFromFnResultFrom}
use Rattle.std.proofs.lemmas.List.{same_lists}
use Rattle.complex.specs.Buffers.{listed}
use Rattle.complex.proofs.Lists.{length_listed, listed_at}

module _ {F B : Type 0} (g : Mut F (ℕ × Unit {0}) B) (of : ℕ → B) (f : F) (n : ℕ) (h : (i : ℕ) (y : B) (f' : F) → i < n → Called g f (i, tt) y f' → (y ≡ of i) × (f' ≡ f)) where
  -- the calls at the k numbers from i on
  turns : (ys : List B) (q : F) (i k : ℕ) → q ≡ f → i + k ≡ n → IsFromFnResultFrom g q ys i k → (j : ℕ) (d : B) → i ≤ j → j < n → get_or ys j d ≡ of j
  turns ys q i zero e s t j d a b = absurd (omega arith)
  turns ys q i (suc k) e s t j d a b =
      let one = h i t.1 t.0 (omega arith) (subst (λ (x : F). Called g x (i, tt) t.1 t.0) e t.3) in
      let rest = turns ys t.0 (i + 1) k one.1 (omega arith) t.4 j d in
      pick one.0 rest (ℕ_discrete i j)
    where
      pick : t.1 ≡ of i → (i + 1 ≤ j → j < n → get_or ys j d ≡ of j) → Dec (i ≡ j) → get_or ys j d ≡ of j
      pick one rest (yes e) = subst (λ (m : ℕ). get_or ys m d ≡ of m) e (t.2.1 d ∙ one)
      pick one rest (no u) = rest (omega arith) b

pub from_fn_listed : {F B : Type 0} {g : Mut F (ℕ × Unit {0}) B} {of : ℕ → B} {f : F} {n : ℕ} {ys : List B} → IsFromFnResult g f ys n
    → ((i : ℕ) (y : B) (f' : F) → i < n → Called g f (i, tt) y f' → (y ≡ of i) × (f' ≡ f)) → ys ≡ listed n of
from_fn_listed {F} {B} {g} {of} {f} {n} {ys} r h =
    same_lists ys (listed n of) (r.long ∙ sym (length_listed of n))
    (λ k d l. let m : k < n = omega (arith, r.long) in turns g of f n h ys f 0 n refl (omega arith) r.each k d (omega arith) m ∙ sym (listed_at of d n k m))
