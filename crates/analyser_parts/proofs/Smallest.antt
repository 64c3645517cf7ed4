-- The smallest number that passes a test. Assumes nothing.
use mathlib.Core.Path.{◌≡◌, ap, ◌∙◌}
use mathlib.Core.Bool.{Bool, true, false, cond}
use Prim.Native.Nat.{ℕ, zero, suc, ◌+◌, ◌<◌, ◌≤◌}
use native.Mathlib.Decide.{ℕ_discrete}
use native.Mathlib.Omega.{arith}
use Rattle.analyser_parts.specs.Choice.{smallest_from, smallest}

from_is : (k n : ℕ) (f : ℕ → Bool) (b : ℕ) → k ≤ b → b < k + n → f b ≡ true → ((i : ℕ) → k ≤ i → i < b → f i ≡ false) → smallest_from k n f ≡ b
unfolding smallest_from
from_is k zero f b h l t none = absurd (omega arith)
from_is k (suc n) f b h l t none = go (ℕ_discrete k b) (from_is (suc k) n f b)
  where
    go : Dec (k ≡ b) → (suc k ≤ b → b < suc k + n → f b ≡ true → ((i : ℕ) → suc k ≤ i → i < b → f i ≡ false) → smallest_from (suc k) n f ≡ b)
        → cond (f k) k (smallest_from (suc k) n f) ≡ b
    go (yes e) r = rw (ap f e ∙ t) e
    go (no e) r = rw (none k (omega arith) (omega arith)) (r (omega arith) (omega arith) t (λ i g m. none i (omega arith) m))

pub smallest_is : (n : ℕ) (f : ℕ → Bool) (b : ℕ) → b < n → f b ≡ true → ((i : ℕ) → i < b → f i ≡ false) → smallest n f ≡ b
smallest_is n f b l t none = from_is 0 n f b (omega arith) (omega arith) t (λ i g m. none i m)

from_none : (k n : ℕ) (f : ℕ → Bool) → ((i : ℕ) → i < k + n → f i ≡ false) → smallest_from k n f ≡ k + n
unfolding smallest_from
from_none k zero f none = omega arith
from_none k (suc n) f none =
    let r : smallest_from (suc k) n f ≡ suc k + n = from_none (suc k) n f (λ i l. none i (omega arith)) in
    let e : suc k + n ≡ k + suc n = omega arith in
    rw (none k (omega arith)) (r ∙ e)

pub smallest_none : (n : ℕ) (f : ℕ → Bool) → ((i : ℕ) → i < n → f i ≡ false) → smallest n f ≡ n
smallest_none n f none = let e : 0 + n ≡ n = omega arith in from_none 0 n f (λ i l. none i (omega arith)) ∙ e
