-- Sizes of lists and of the sums made of them. Assumes nothing.
use mathlib.Core.List.{List}
use Prim.Native.Nat.{ℕ, ◌*◌}
use native.Mathlib.Omega.{arith}
use lib.IntN.{ℤ}
use Rattle.complex.specs.Fits.{Within, Bound}
use Rattle.complex.proofs.Sizes.{within_more, within_mul}
use Rattle.complex.proofs.Components.{within_Σℤ}
use Rattle.codes.proofs.Rows.{sign_within}
use Rattle.analyser_parts.specs.PartSums.{signed_sum}

pub signed_sum_within : {k : ℕ} {x : List ℤ} → Bound k x → (from row : ℕ) → Within (16 * k) (signed_sum x from row)
unfolding signed_sum
signed_sum_within {k} h from row = within_Σℤ k 16 _ (λ i l. within_more (within_mul (sign_within _ _) (h.at _)) k (omega arith))
