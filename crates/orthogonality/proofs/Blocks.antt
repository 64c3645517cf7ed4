-- A block of sixteen chips holds 16/Q symbols of a code of factor Q, each of Q chips. Assumes nothing.
use mathlib.Core.Path.{◌≡◌}
use mathlib.Core.Bool.{true}
use Prim.Native.Nat.{ℕ, ◌+◌, ◌*◌, ◌/◌, ◌%◌, ◌<◌}
use native.Mathlib.Omega.{arith}
use Rattle.codes.specs.Tree.{is_spreading_factor}
use Rattle.codes.proofs.Factors.{of_factors}

pub record Blocks (Q : ℕ) : Type 0 where
  pub whole : 16 / Q * Q ≡ 16
  -- symbol n is symbol n % (16/Q) of its block
  pub symbol : (n : ℕ) → n / (16 / Q) * (16 / Q) + n % (16 / Q) ≡ n
  pub symbol_below : (n : ℕ) → n % (16 / Q) < 16 / Q
  -- chip i of symbol r of block m
  pub place : (m r i : ℕ) → (m * (16 / Q) + r) * Q + i ≡ m * 16 + (r * Q + i)
  pub inside : (r i : ℕ) → r < 16 / Q → i < Q → r * Q + i < 16
  -- chip t of block m
  pub divided : (m t : ℕ) → (m * 16 + t) / Q ≡ m * (16 / Q) + t / Q
  pub left : (m t : ℕ) → (m * 16 + t) % Q ≡ t % Q
  pub below : (t : ℕ) → t < 16 → t / Q < 16 / Q
  -- chip i of symbol n
  pub own_symbol : (n i : ℕ) → i < Q → (n * Q + i) / Q ≡ n
  pub own_element : (n i : ℕ) → i < Q → (n * Q + i) % Q ≡ i

pub blocks : (Q : ℕ) → is_spreading_factor Q ≡ true → Blocks Q
blocks = of_factors Blocks (omega arith) (omega arith) (omega arith) (omega arith) (omega arith)
