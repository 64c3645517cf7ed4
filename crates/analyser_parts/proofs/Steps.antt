-- A call whose list of refusals is tested in parts, each by a function of its own. Assumes nothing.
use mathlib.Core.Path.{◌≡◌, refl}
use mathlib.Core.Bool.{Bool, true, false, cond}
use mathlib.Core.List.{List, [], ◌∷◌, ◌++◌}
use Prim.Native.Nat.{ℕ}
use Rattle.codes.specs.Refusals.{refused, gives, RefusalRule, ◌otherwise◌}

module _ {A B : Type 0} (a : A) (b : B) where
  -- what one part refuses, the whole refuses
  pub refused_by : (rs qs : List RefusalRule) {n : ℕ} → rs otherwise b ≡ refused n → (rs ++ qs) otherwise a ≡ refused n
  refused_by [] qs e = cc
  refused_by (r ∷ rs) qs {n} e = go r.condition e (refused_by rs qs)
    where
      go : (t : Bool) → cond t (refused r.number) (rs otherwise b) ≡ refused n → (rs otherwise b ≡ refused n → (rs ++ qs) otherwise a ≡ refused n)
          → cond t (refused r.number) ((rs ++ qs) otherwise a) ≡ refused n
      go true e f = cc
      go false e f = f e

  -- where it accepts, the rest decides
  pub passed_by : (rs qs : List RefusalRule) {x : B} → rs otherwise b ≡ gives x → (rs ++ qs) otherwise a ≡ qs otherwise a
  passed_by [] qs e = refl
  passed_by (r ∷ rs) qs {x} e = go r.condition e (passed_by rs qs)
    where
      go : (t : Bool) → cond t (refused r.number) (rs otherwise b) ≡ gives x → (rs otherwise b ≡ gives x → (rs ++ qs) otherwise a ≡ qs otherwise a)
          → cond t (refused r.number) ((rs ++ qs) otherwise a) ≡ qs otherwise a
      go true e f = cc
      go false e f = f e

-- what is given where nothing is refused
pub given : {B : Type 0} {b x : B} (rs : List RefusalRule) → rs otherwise b ≡ gives x → b ≡ x
given [] e = cc
given {B} {b} {x} (r ∷ rs) e = go r.condition e (given rs)
  where
    go : (t : Bool) → cond t (refused r.number) (rs otherwise b) ≡ gives x → (rs otherwise b ≡ gives x → b ≡ x) → b ≡ x
    go true e f = cc
    go false e f = f e
