-- What a refusal's number, found by itself, says of the whole answer. Assumes nothing.
use mathlib.Core.Path.{◌≡◌, refl, sym, ap, subst, ◌∙◌}
use mathlib.Core.Logic.{◌≢◌}
use mathlib.Core.Bool.{Bool, true, false, ◌&&◌, not, cond}
use mathlib.Core.List.{List, [], ◌∷◌, ◌++◌}
use lib.Dec.{T, eqb}
use borrow.Author.Tests.{eq-eqb}
use mir.Facts.{and_yes}
use Rattle.codes.specs.Refusals.{Answer, refused, gives, RefusalRule, ◌otherwise◌, refusal_number, outcome, after, refusal_of}

-- no refusal of the list has number 0
unfoldable pub numbered : List RefusalRule → Bool
numbered [] = true
numbered (r ∷ rs) = not (eqb r.number 0) && numbered rs

-- no condition of the list holds
abbrev pub Passed : List RefusalRule → Type 0
Passed [] = Unit {0}
Passed (r ∷ rs) = (r.condition ≡ false) × Passed rs

pub passed : (rs : List RefusalRule) → T (numbered rs) → refusal_number rs ≡ 0 → Passed rs
unfolding numbered
passed [] t e = tt
passed (r ∷ rs) t e = go r.condition refl e (and_yes (not (eqb r.number 0)) (numbered rs) t) (passed rs)
  where
    go : (b : Bool) → r.condition ≡ b → cond b r.number (refusal_number rs) ≡ 0 → T (not (eqb r.number 0)) × T (numbered rs) → (T (numbered rs) → refusal_number rs ≡ 0 → Passed rs)
        → (r.condition ≡ false) × Passed rs
    go true q z u f = absurd (subst (λ b. T (not b)) (eq-eqb r.number 0 z) u.0)
    go false q z u f = (q, f u.1 z)

module _ {A : Type 0} (a : A) where
  passed_gives : (rs : List RefusalRule) → Passed rs → rs otherwise a ≡ gives a
  passed_gives [] p = refl
  passed_gives (r ∷ rs) p = rw p.0 (passed_gives rs p.1)

  pub accepted : (rs : List RefusalRule) → T (numbered rs) → refusal_number rs ≡ 0 → rs otherwise a ≡ gives a
  accepted rs t e = passed_gives rs (passed rs t e)

  pub not_accepted : (rs : List RefusalRule) → refusal_number rs ≢ 0 → rs otherwise a ≡ refused (refusal_number rs)
  not_accepted [] d = absurd (d refl)
  not_accepted (r ∷ rs) d = go r.condition d (not_accepted rs)
    where
      go : (b : Bool) → cond b r.number (refusal_number rs) ≢ 0 → (refusal_number rs ≢ 0 → rs otherwise a ≡ refused (refusal_number rs))
          → cond b (refused r.number) (rs otherwise a) ≡ refused (cond b r.number (refusal_number rs))
      go true z f = refl
      go false z f = f z

-- what an accepted answer says of the tests
module _ {A : Type 0} (a b : A) where
  pub gives_passed : (rs : List RefusalRule) → gives b ≡ rs otherwise a → Passed rs
  gives_passed [] e = tt
  gives_passed (r ∷ rs) e = go r.condition refl e (gives_passed rs)
    where
      go : (t : Bool) → r.condition ≡ t → gives b ≡ cond t (refused r.number) (rs otherwise a) → (gives b ≡ rs otherwise a → Passed rs) → (r.condition ≡ false) × Passed rs
      go true q z f = absurd (cc)
      go false q z f = (q, f z)

  pub gives_value : (rs : List RefusalRule) → gives b ≡ rs otherwise a → b ≡ a
  gives_value [] e = cc
  gives_value (r ∷ rs) e = go r.condition e (gives_value rs)
    where
      go : (t : Bool) → gives b ≡ cond t (refused r.number) (rs otherwise a) → (gives b ≡ rs otherwise a → b ≡ a) → b ≡ a
      go true z f = absurd (cc)
      go false z f = f z

-- ---- a list in two parts
pub refused_early : (rs qs : List RefusalRule) → refusal_number rs ≢ 0 → refusal_number (rs ++ qs) ≡ refusal_number rs
refused_early [] qs d = absurd (d refl)
refused_early (r ∷ rs) qs d = go r.condition d (refused_early rs qs)
  where
    go : (b : Bool) → cond b r.number (refusal_number rs) ≢ 0 → (refusal_number rs ≢ 0 → refusal_number (rs ++ qs) ≡ refusal_number rs)
        → cond b r.number (refusal_number (rs ++ qs)) ≡ cond b r.number (refusal_number rs)
    go true z f = refl
    go false z f = f z

pub passed_early : (rs qs : List RefusalRule) → Passed rs → refusal_number (rs ++ qs) ≡ refusal_number qs
passed_early [] qs p = refl
passed_early (r ∷ rs) qs p = rw p.0 (passed_early rs qs p.1)

-- ---- an answer as a C struct holds it: its refusal's number or 0, and a field f, or z where it is refused
pub held : {A B : Type 0} (z : B) (f : A → B) {t a : Answer A} → t ≡ a → (refusal_of t ≡ refusal_of a) × (after t z f ≡ after a z f)
held z f e = (ap refusal_of e, ap (λ b. after b z f) e)

pub refusal_of_outcome : {A : Type 0} (a : Answer A) → refusal_of (outcome a) ≡ refusal_of a
refusal_of_outcome (refused n) = refl
refusal_of_outcome (gives x) = refl

-- 0 is answered for an accepted call alone
abbrev pub ZeroAccepts : {A : Type 0} → Answer A → Type 0
ZeroAccepts a = refusal_of a ≡ 0 → outcome a ≡ gives tt

pub 0_accepts : {A : Type 0} (a : A) (rs : List RefusalRule) → T (numbered rs) → ZeroAccepts (rs otherwise a)
0_accepts a rs t e = ap outcome (accepted a rs t (sym (as_number rs) ∙ e))
  where
    as_number : (qs : List RefusalRule) → refusal_of (qs otherwise a) ≡ refusal_number qs
    as_number [] = refl
    as_number (q ∷ qs) = go q.condition (as_number qs)
      where
        go : (b : Bool) → refusal_of (qs otherwise a) ≡ refusal_number qs → refusal_of (cond b (refused q.number) (qs otherwise a)) ≡ cond b q.number (refusal_number qs)
        go true h = refl
        go false h = h
