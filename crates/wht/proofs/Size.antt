-- How large the numbers of a WHT can be. Assumes nothing.
use Prim.Native.Nat.{ℕ, zero, suc, ◌*◌, ◌≤◌}
use native.Mathlib.Omega.{arith}
use lib.Dec.{lit≤}
use lib.IntN.{ℤ, pos, nat_abs, ◌+ℤ◌, ◌-ℤ◌}
use lib.ListN.{get_or}
use Rattle.laws.specs.Integer.{floor_div}
use Rattle.laws.proofs.Divide.{nat_abs_floor_div}
use Rattle.laws.proofs.Size.{nat_abs-+ℤ, nat_abs_sub}
use Rattle.wht.specs.Wht.{wht_four, line_of}

module _ (b : ℕ) (p q r s : ℤ) (hp : nat_abs p ≤ b) (hq : nat_abs q ≤ b) (hr : nat_abs r ≤ b) (hs : nat_abs s ≤ b) where
  half_size : nat_abs (floor_div (p +ℤ q +ℤ r -ℤ s) 2) ≤ 4 * b
  half_size =
      omega (arith, nat_abs_floor_div (p +ℤ q +ℤ r -ℤ s) 2, nat_abs_sub (p +ℤ q +ℤ r) s, nat_abs-+ℤ (p +ℤ q) r, nat_abs-+ℤ p q)

  four_size : (f : ℕ) → nat_abs (get_or (wht_four p q r s) f (pos 0)) ≤ 7 * b
  unfolding wht_four
  four_size zero =
      let e = floor_div (p +ℤ q +ℤ r -ℤ s) 2 in
      omega (arith, half_size, nat_abs_sub (p +ℤ q +ℤ r) e, nat_abs-+ℤ (p +ℤ q) r, nat_abs-+ℤ p q)
  four_size (suc zero) = let e = floor_div (p +ℤ q +ℤ r -ℤ s) 2 in omega (arith, half_size, nat_abs_sub e r)
  four_size (suc (suc zero)) =
      let e = floor_div (p +ℤ q +ℤ r -ℤ s) 2 in
      omega (arith, half_size, nat_abs_sub (s -ℤ r +ℤ e) q, nat_abs-+ℤ (s -ℤ r) e, nat_abs_sub s r)
  four_size (suc (suc (suc zero))) = let e = floor_div (p +ℤ q +ℤ r -ℤ s) 2 in omega (arith, half_size, nat_abs_sub e q)
  four_size (suc (suc (suc (suc f)))) = omega arith

-- a line's numbers are at most seven times as large as what it was given
pub line_size : (b : ℕ) (x : ℕ → ℤ) → ((k : ℕ) → k ≤ 3 → nat_abs (x k) ≤ b) → (f : ℕ) → nat_abs (line_of x f) ≤ 7 * b
unfolding line_of
line_size b x h f = four_size b (x 0) (x 1) (x 2) (x 3) (h 0 (lit≤ tt)) (h 1 (lit≤ tt)) (h 2 (lit≤ tt)) (h 3 (lit≤ tt)) f
