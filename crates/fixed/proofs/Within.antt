-- A number within a limit is no larger. Assumes nothing.
use mathlib.Core.Path.{◌≡◌, sym, subst}
use mathlib.Core.Bool.{true}
use mathlib.Core.List.{List}
use Prim.Native.Nat.{ℕ, zero, suc, ◌≤◌, ◌<◌}
use native.Mathlib.Omega.{arith}
use lib.Dec.{T, leb, leb→le}
use lib.IntN.{ℤ, pos, negsuc, nat_abs, neg_ℤ}
use lib.ListN.{get_or}
use lib.Signed.{le_z}
use Rattle.laws.proofs.Bool.{both}
use Rattle.laws.proofs.Every.{every_each}
use Rattle.fixed.specs.Limit.{is_within, all_within}

pub within_size : (limit : ℕ) (z : ℤ) → is_within limit z ≡ true → nat_abs z ≤ limit
unfolding is_within
within_size limit (pos n) e = leb→le n limit (subst T (sym (both (le_z (neg_ℤ (pos limit)) (pos n)) (leb n limit) e).1) tt)
within_size zero (negsuc n) e = absurd (subst T (sym (both (le_z (pos 0) (negsuc n)) (le_z (negsuc n) (pos 0)) e).0) tt)
within_size (suc l) (negsuc n) e =
    omega (arith, leb→le n l (subst T (sym (both (leb n l) (le_z (negsuc n) (pos (suc l))) e).0) tt))

-- each of the first n numbers
pub each_size : (limit n : ℕ) (l : List ℤ) → all_within limit n l ≡ true → (k : ℕ) → k < n → nat_abs (get_or l k (pos 0)) ≤ limit
unfolding all_within
each_size limit n l e k b = within_size limit (get_or l k (pos 0)) (every_each n (λ i. is_within limit (get_or l i (pos 0))) e k b)
