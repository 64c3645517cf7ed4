-- Complex values are whole-number pairs (re, im); j is the imaginary unit, conj the conjugate (document 01).
-- The values are those of the struct `Complex`. Each operation has a mark of its own: ⊕ adds, ⊗ multiplies.
use Rattle.std.specs.Prelude.{ℤ, pos, ◌+ℤ◌, ◌-ℤ◌, ◌*ℤ◌, neg_ℤ, ℕ, zero, suc}
use Rattle.complex.specs.declared.Complex.{Complex}

-- re + im j
infixl 5 ◌+j◌
abbrev pub ◌+j◌ : ℤ → ℤ → Complex
x +j y = record { re = x; im = y }

-- a whole number as a complex one
unfoldable pub real : ℤ → Complex
real x = x +j pos 0

unfoldable pub 𝟎 : Complex
𝟎 = pos 0 +j pos 0

unfoldable pub 𝟏 : Complex
𝟏 = pos 1 +j pos 0

unfoldable pub 𝐣 : Complex
𝐣 = pos 0 +j pos 1

infixl 6 ◌⊕◌
unfoldable pub ◌⊕◌ : Complex → Complex → Complex
x ⊕ y = (x.re +ℤ y.re) +j (x.im +ℤ y.im)

infixl 7 ◌⊗◌
unfoldable pub ◌⊗◌ : Complex → Complex → Complex
x ⊗ y = (x.re *ℤ y.re -ℤ x.im *ℤ y.im) +j (x.re *ℤ y.im +ℤ x.im *ℤ y.re)

unfoldable pub conj : Complex → Complex
conj x = x.re +j neg_ℤ x.im

-- j to the power n
unfoldable pub j^ : ℕ → Complex
j^ zero = 𝟏
j^ (suc n) = 𝐣 ⊗ j^ n

-- f 0 ⊕ f 1 ⊕ .. ⊕ f (n - 1)
unfoldable pub Σ< : ℕ → (ℕ → Complex) → Complex
Σ< zero f = 𝟎
Σ< (suc n) f = Σ< n f ⊕ f n

-- f 0 + f 1 + .. + f (n - 1) of whole numbers
unfoldable pub Σℤ< : ℕ → (ℕ → ℤ) → ℤ
Σℤ< zero f = pos 0
Σℤ< (suc n) f = Σℤ< n f +ℤ f n

-- the squared size of a complex value
unfoldable pub squared_size : Complex → ℤ
squared_size x = x.re *ℤ x.re +ℤ x.im *ℤ x.im
