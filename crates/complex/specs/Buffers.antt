-- Complex values come as a re and an im buffer (document 01, "Analyser calls"): two lists of whole numbers.
use Rattle.std.specs.Prelude.{ℤ, pos, ℕ, zero, suc, List, [], ◌∷◌, ◌++◌, get_or, length, drop}
use Rattle.complex.specs.declared.Complex.{Complex}
use Rattle.complex.specs.declared.Block.{Block}
use Rattle.complex.specs.Arithmetic.{◌+j◌}

-- entry n of a list, from 0; 0 past its end
infixl 8 ◌at◌
unfoldable pub ◌at◌ : List ℤ → ℕ → ℤ
l at n = get_or l n (pos 0)

-- value n of the two buffers, from 0; 0 past their end
abbrev pub value : List ℤ → List ℤ → ℕ → Complex
value re im n = get_or re n (pos 0) +j get_or im n (pos 0)

-- f 0, f 1, .., f (n - 1)
unfoldable pub listed : {A : Type 0} → ℕ → (ℕ → A) → List A
listed zero f = []
listed (suc n) f = listed n f ++ (f n ∷ [])

-- a re and an im buffer
pub record Values : Type 0 where
  pub re : List ℤ
  pub im : List ℤ

-- f 0, f 1, .., f (n - 1), in two buffers
abbrev pub in_buffers : ℕ → (ℕ → Complex) → Values
in_buffers n f = record { re = listed n (λ i. (f i).re); im = listed n (λ i. (f i).im) }

-- f 0, .., f 15 in a block
abbrev pub block_of : (ℕ → Complex) → Block
block_of f = record { re = listed 16 (λ i. (f i).re); im = listed 16 (λ i. (f i).im) }

-- what a buffer holds once entries were written from its start on: "entries past those written stay"
abbrev pub written : {A : Type 0} → List A → List A → List A
written new old = new ++ drop (length new) old
