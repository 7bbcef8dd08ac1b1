-- What a block within the residual limit says of each of its residuals. Assumes nothing.
use mathlib.Core.Path.{◌≡◌}
use mathlib.Core.Bool.{true}
use mathlib.Core.List.{List}
use Prim.Native.Nat.{ℕ, ◌≤◌, ◌<◌}
use lib.IntN.{ℤ, pos, nat_abs}
use lib.ListN.{get_or, length, take}
use Rattle.laws.proofs.Every.{every_first}
use Rattle.fixed.specs.Limit.{is_within, all_within}
use Rattle.fixed.proofs.Within.{each_size}
use Rattle.residual.specs.Residual.{residuals_ok}

pub residual_size : (n : ℕ) (l : List ℤ) → residuals_ok n l ≡ true → (k : ℕ) → k < n → nat_abs (get_or l k (pos 0)) ≤ 4095
unfolding residuals_ok
residual_size n l e = each_size 4095 n l e

-- the first n residuals, as a slice
pub slice_ok : (n : ℕ) (l : List ℤ) → n ≤ length l → residuals_ok (length (take n l)) (take n l) ≡ residuals_ok n l
unfolding residuals_ok all_within
slice_ok n l h = every_first (is_within 4095) n l (pos 0) h
