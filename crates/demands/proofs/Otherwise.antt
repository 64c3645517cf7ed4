-- Refusals, otherwise a change: the one law of all calls of that kind. Assumes nothing.
use mathlib.Core.Path.{◌≡◌, refl}
use mathlib.Core.Bool.{Bool, true, false, cond}
use mathlib.Core.List.{List, [], ◌∷◌}
use Prim.Native.Nat.{ℕ}
use Rattle.codes.specs.Refusals.{Answer, refused, gives, RefusalRule, ◌otherwise◌}
use Rattle.codes.proofs.Refused.{Passed}

-- two answers by the same refusals are alike if equal refusals are, and the changes where no refusal is given
module _ {A B : Type 0} (R : Answer A → Answer B → Type 0) (refusals : (n : ℕ) → R (refused n) (refused n)) where
  pub alike : (rs : List RefusalRule) (a : A) (b : B) → (Passed rs → R (gives a) (gives b)) → R (rs otherwise a) (rs otherwise b)
  alike [] a b h = h tt
  alike (r ∷ rs) a b h = go r.condition refl (alike rs a b)
    where
      go : (t : Bool) → r.condition ≡ t → ((Passed rs → R (gives a) (gives b)) → R (rs otherwise a) (rs otherwise b))
          → R (cond t (refused r.number) (rs otherwise a)) (cond t (refused r.number) (rs otherwise b))
      go true e f = refusals r.number
      go false e f = f (λ p. h (e, p))
