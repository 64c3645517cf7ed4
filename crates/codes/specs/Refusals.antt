-- A call's answer, and the list of its refusals in document 01's order.
use Rattle.std.specs.Prelude.{ℕ, List, [], ◌∷◌, Bool, cond}

-- a call is refused, by document 01's number alone, or gives its values
pub data Answer (A : Type 0) : Type 0 where
  refused : ℕ → Answer A
  gives : A → Answer A

-- a call's rule of refusal: the number, and the condition under which it is given
pub record RefusalRule : Type 0 where
  pub number : ℕ
  pub condition : Bool

infix 70 ◌if◌
abbrev pub ◌if◌ : ℕ → Bool → RefusalRule
n if t = record { number = n; condition = t }

-- "a refusal number is given if its condition holds and no earlier one in the call's list does, else never"
infix 20 ◌otherwise◌
abbrev pub ◌otherwise◌ : {A : Type 0} → List RefusalRule → A → Answer A
[] otherwise a = gives a
(r ∷ rs) otherwise a = cond r.condition (refused r.number) (rs otherwise a)

-- the answer without its values, which go to buffers or are the new bench: its refusal, or nothing more
abbrev pub outcome : {A : Type 0} → Answer A → Answer (Unit {0})
outcome (refused n) = refused n
outcome (gives a) = gives tt

-- what a call leaves where it finds b: "bench and buffers stay" after a refusal
abbrev pub after : {A B : Type 0} → Answer A → B → (A → B) → B
after (refused n) b f = b
after (gives a) b f = f a

-- ---- an answer as a C struct holds it: the refusal's number, or 0, which no list of refusals has. A value that only an accepted
-- call has is 0 after a refusal: `after r 0 ..`.
abbrev pub refusal_of : {A : Type 0} → Answer A → ℕ
refusal_of (refused n) = n
refusal_of (gives a) = 0

-- ---- what only the functions need
-- the number of the first refusal whose condition holds; 0, which is no refusal's, where none does
abbrev pub refusal_number : List RefusalRule → ℕ
refusal_number [] = 0
refusal_number (r ∷ rs) = cond r.condition r.number (refusal_number rs)
