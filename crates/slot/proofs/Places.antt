-- Where the pair of bits stands that chip first + c of a field has of a code of factor Q, `before` being the chips of the fields before.
-- `before` and `first` are multiples of 16, and Q divides 16 into w: the code has w pairs a block of 16 chips. Assumes nothing.
use mathlib.Core.Path.{◌≡◌, sym, ap, ◌∙◌}
use Prim.Native.Nat.{ℕ, ◌+◌, ◌*◌, ◌/◌, ◌%◌, ◌<◌, ◌≤◌}
use native.Mathlib.Nat.{mul_assoc, mul-le-mul_left, mul-add-div, mul-add-mod_self_left, mul-div_cancel_left, div-eq_of_lt, mod-eq_of_lt, div-lt_iff_lt-mul}
use native.Mathlib.Omega.{arith}

module _ (Q w before first c : ℕ) (q : 0 < Q) (e : Q * w ≡ 16) (b : before % 16 ≡ 0) (f : first % 16 ≡ 0) (l : c < 16) where
  -- a multiple of 16 is a multiple of Q
  whole : (x : ℕ) → x % 16 ≡ 0 → x ≡ Q * (w * (x / 16))
  whole x h = let s : x ≡ 16 * (x / 16) = omega arith in s ∙ ap (λ (n : ℕ). n * (x / 16)) (sym e) ∙ mul_assoc Q w (x / 16)

  -- the element of the code
  pub code_place : (first + c) % Q ≡ c % Q
  code_place = ap (λ (n : ℕ). (n + c) % Q) (whole first f) ∙ mul-add-mod_self_left Q (w * (first / 16)) c

  -- its pair among the w of the block, and among all of the code
  pub pair_below : c / Q < w
  pair_below = (div-lt_iff_lt-mul q).1 (omega (arith, e))

  pair_in_blocks : before / Q + (first + c) / Q ≡ w * (before / 16 + first / 16) + c / Q
  pair_in_blocks =
      let h : before / Q ≡ w * (before / 16) = ap (λ (n : ℕ). n / Q) (whole before b) ∙ mul-div_cancel_left (w * (before / 16)) q in
      let g : (first + c) / Q ≡ w * (first / 16) + c / Q = ap (λ (n : ℕ). (n + c) / Q) (whole first f) ∙ mul-add-div q (w * (first / 16)) c in
      omega (arith, h, g)

  -- the pair's place in the table, of code (Q, k), is in the block from before + first on
  pub pair_place : (k : ℕ) → let n = before / Q + (first + c) / Q in 16 * (n / w) + k * w + n % w ≡ before + first + (k * w + c / Q)
  pair_place k =
      let m = before / 16 + first / 16 in
      let r : (c / Q) / w ≡ 0 = div-eq_of_lt pair_below in
      let p : 0 < w = omega (arith, pair_below) in
      rw pair_in_blocks
      (omega (arith, mul-add-div p m (c / Q), r, mul-add-mod_self_left w m (c / Q), mod-eq_of_lt pair_below))

  -- it is a pair of the d chips of all fields
  pub pair_inside : (d : ℕ) → d % 16 ≡ 0 → before + first + c < d → 2 * (before / Q + (first + c) / Q) + 1 < 2 * d / Q
  pair_inside d h g =
      let s : 2 * d ≡ Q * (2 * (w * (d / 16))) = omega (arith, whole d h) in
      let t : 2 * d / Q ≡ 2 * (w * (d / 16)) = ap (λ (n : ℕ). n / Q) s ∙ mul-div_cancel_left (2 * (w * (d / 16))) q in
      let m : before / 16 + first / 16 + 1 ≤ d / 16 = omega arith in
      omega (arith, t, pair_in_blocks, pair_below, mul-le-mul_left w m)
