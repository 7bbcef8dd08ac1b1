-- The DCT kernel of a smaller side in that of a larger, and where a row lies within the table. Assumes nothing.
use mathlib.Core.Path.{◌≡◌, sym, ap, ◌∙◌}
use Prim.Native.Nat.{ℕ, ◌+◌, ◌*◌, ◌/◌, ◌<◌, ◌≤◌}
use native.Mathlib.Nat.{div-lt_iff_lt-mul, mul-div-mul_right, mul_assoc}
use native.Mathlib.Omega.{arith}
use lib.IntN.{pos}
use lib.ListN.{length, get_or}
use Rattle.kernels.specs.Dct.{dct, dct32, row_start}

-- every s-th frequency at side m × s is a frequency at side m
pub dct_scale : (m s g k : ℕ) → 0 < s → dct (m * s) (g * s) k ≡ dct m g k
unfolding dct
dct_scale m s g k some = ap (λ (r : ℕ). get_or dct32 (r * 32 + k) (pos 0)) (ap (λ (x : ℕ). x / (m * s)) (sym (mul_assoc 32 g s)) ∙ mul-div-mul_right (32 * g) m some)

-- a row's n numbers lie within the table
pub in_table : (n f : ℕ) → n ≤ 32 → f < n → row_start n f + n ≤ length dct32
unfolding dct32
in_table n f small b = let r : 32 * f / n < 32 = (div-lt_iff_lt-mul (let some : 0 < n = omega arith in some)).1 (omega arith) in omega arith
