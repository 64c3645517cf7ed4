-- What a call's refusal tests say of its answer and bench, and of the numbers that they let pass. Assumes nothing.
use Rattle.std.proofs.Common.{◌≡◌, sym, ap, ◌∙◌, subst, refl, ℕ, ◌≤◌, List, [], ◌∷◌, ◌++◌, Bool, true, false, Result, Ok, Err, is_ok}
use mathlib.Core.Bool.{not, cond, ◌&&◌}
use borrow.Author.Tests.{lt-ltb, leb-false, not-false}
use lib.Dec.{T, leb, leb→le}
use mir.Facts.{and_yes}
use Rattle.codes.specs.Refusals.{Answer, refused, gives, RefusalRule, ◌if◌, ◌otherwise◌, outcome}
use Rattle.std.specs.Prelude.{MatchResult}
use Rattle.codes.specs.Tree.{is_spreading_factor}
use Rattle.codes.specs.CodeRefusals.{code_refusals}
use Rattle.codes.specs.declared.tree.Code.{Code}
use Rattle.codes.proofs.Factors.{factor_range}
use Rattle.codes.proofs.Refused.{Passed}
use Rattle.tables.proofs.Blocks.{IsCode}
use Rattle.bench.specs.declared.Bench.{Bench}
use Rattle.bench.specs.BenchCalls.{bad_gain, left_by}

-- ---- a list of refusals whose answer, with some value, is known
module _ {A : Type 0} (a : A) where
  pub all_passed : (rs : List RefusalRule) {b : A} → gives b ≡ rs otherwise a → Passed rs × (b ≡ a)
  all_passed [] e = (tt, cc)
  all_passed (r ∷ rs) {b} e = go r.condition refl e (all_passed rs)
    where
      go : (t : Bool) → r.condition ≡ t → gives b ≡ cond t (refused r.number) (rs otherwise a) → (gives b ≡ rs otherwise a → Passed rs × (b ≡ a))
          → Passed (r ∷ rs) × (b ≡ a)
      go true q e f = absurd cc
      go false q e f = let p = f e in ((q, p.0), p.1)

  -- tests that passed may be left out
  pub after_passed : (rs qs : List RefusalRule) → Passed rs → (rs ++ qs) otherwise a ≡ qs otherwise a
  after_passed [] qs p = refl
  after_passed (r ∷ rs) qs p = rw p.0 (after_passed rs qs p.1)

  -- a refusal is the same with any other value
  pub still_refused : {B : Type 0} (b : B) (rs : List RefusalRule) {n : ℕ} → refused n ≡ rs otherwise a → rs otherwise b ≡ refused n
  still_refused b [] e = absurd cc
  still_refused {B} b (r ∷ rs) {n} e = go r.condition e (still_refused b rs)
    where
      go : (t : Bool) → refused n ≡ cond t (refused r.number) (rs otherwise a) → (refused n ≡ rs otherwise a → rs otherwise b ≡ refused n)
          → cond t (refused r.number) (rs otherwise b) ≡ refused n
      go true e f = let s : n ≡ r.number = cc in rw s
      go false e f = f e

  -- an acceptance too
  pub still_given : {B : Type 0} (b : B) (rs : List RefusalRule) {x : A} → gives x ≡ rs otherwise a → rs otherwise b ≡ gives b
  still_given b rs e = go rs (all_passed rs e).0
    where
      go : (qs : List RefusalRule) → Passed qs → qs otherwise b ≡ gives b
      go [] p = refl
      go (q ∷ qs) p = rw p.0 (go qs p.1)

-- ---- the code that a function's tests gave back
-- these tests of code (Q, k) passed: 3 and 4, the first of each call that takes one, or more
abbrev pub IsFound : List RefusalRule → Code → ℕ → ℕ → Type 0
IsFound rs code Q k = ◌≡◌ {A = Answer (ℕ × ℕ)} (gives (code.q, code.k)) (rs otherwise (Q, k))

module _ (rs : List RefusalRule) (code : Code) (Q k : ℕ) (e : IsFound rs code Q k) where
  pub same_code : (code.q ≡ Q) × (code.k ≡ k)
  same_code = let p = (all_passed (Q, k) rs e).1 in (ap (λ (x : ℕ × ℕ). x.0) p, ap (λ (x : ℕ × ℕ). x.1) p)

  pub found : ◌≡◌ {A = Answer (ℕ × ℕ)} (gives (code.q, code.k)) (gives (Q, k))
  found = ap (λ (x : ℕ × ℕ). gives x) (all_passed (Q, k) rs e).1

  pub after_tests : {A : Type 0} (a : A) (qs : List RefusalRule) → (rs ++ qs) otherwise a ≡ qs otherwise a
  after_tests a qs = after_passed a rs qs (all_passed (Q, k) rs e).0

-- what a list of refusals answers to the numbers Q and k
abbrev pub code_answer : List RefusalRule → ℕ → ℕ → Answer (ℕ × ℕ)
code_answer rs Q k = rs otherwise (Q, k)

-- a call of a code whose first tests are 3 and 4: the others decide
module _ (Q k : ℕ) (code : Code) (e : IsFound (code_refusals Q k) code Q k) (qs : List RefusalRule) where
  pub refused_later : {n : ℕ} → code_answer qs Q k ≡ refused n → refused n ≡ code_answer (code_refusals Q k ++ qs) Q k
  refused_later h = sym (after_tests (code_refusals Q k) code Q k e _ qs ∙ h)

  pub given_later : ◌≡◌ {A = Answer (ℕ × ℕ)} (code_answer qs Q k) (gives (Q, k)) → IsFound (code_refusals Q k ++ qs) code Q k
  given_later h = found (code_refusals Q k) code Q k e ∙ sym (after_tests (code_refusals Q k) code Q k e _ qs ∙ h)

-- ---- what 3 and 4 let pass
pub good_code : (Q k : ℕ) → not (is_spreading_factor Q) ≡ false → leb Q k ≡ false → IsCode Q k
good_code Q k e f =
    let q = not-false (is_spreading_factor Q) e in
    let h = leb-false Q k f in
    record { factor = q; below = h; small = (factor_range Q q).1; listed = rw (q, lt-ltb k Q h) }

-- ---- what 5 lets pass: the narrowing to 16 bits keeps such a gain
pub good_gain : (g : ℕ) {u : Unit {0}} → gives u ≡ (5 if bad_gain g ∷ []) otherwise tt → bad_gain g ≡ false
good_gain g e = (all_passed tt (5 if bad_gain g ∷ []) e).0.0

pub gain_range : (g : ℕ) → bad_gain g ≡ false → (1 ≤ g) × (g ≤ 4095)
gain_range g e =
    let t = and_yes (leb 1 g) (leb g 4095) (subst T (sym (not-false (leb 1 g && leb g 4095) e)) tt) in
    (leb→le 1 g t.0, leb→le g 4095 t.1)

-- ---- the two ways of a call: it refuses and the bench stays, or it accepts and leaves the new one
module _ {A : Type 0} (a : A) (rs : List RefusalRule) (b new : Bench) where
  pub call_refused : {n : ℕ} → refused n ≡ rs otherwise a → (refused n ≡ outcome (rs otherwise new)) × (b ≡ left_by (rs otherwise new) b)
  call_refused e = let r = still_refused a new rs e in (sym (ap outcome r), sym (ap (λ t. left_by t b) r))

  pub call_accepted : {x : A} → gives x ≡ rs otherwise a → (gives tt ≡ outcome (rs otherwise new)) × (new ≡ left_by (rs otherwise new) b)
  call_accepted e = let r = still_given a new rs e in (sym (ap outcome r), sym (ap (λ t. left_by t b) r))

-- ---- a call answers what its tests gave back, without the value
pub accepts : {E : Type 0} (m : Result (Unit {0}) E) → is_ok m ≡ true → m ≡ Ok tt
accepts (Ok u) v = refl
accepts (Err x) v = absurd cc

pub refuses : {T E : Type 0} (P : T → Type 0) (m : Result (Unit {0}) E) (x : E) {r : Result T E} → r ≡ Err x → MatchResult r P (λ y. m ≡ Err y) → m ≡ Err x
refuses {T} {E} P m x e h = subst (λ (t : Result T E). MatchResult t P (λ y. m ≡ Err y)) e h
