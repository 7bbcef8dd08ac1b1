-- No wrap occurs in a block within the residual limit, and the largest sum before rounding is reached. Assumes nothing.
use mathlib.Core.Path.{◌≡◌, refl}
use mathlib.Core.Bool.{true}
use mathlib.Core.List.{List}
use Prim.Native.Nat.{ℕ, ◌*◌, ◌≤◌, ◌<◌}
use lib.IntN.{ℤ, pos, nat_abs}
use lib.ListN.{get_or}
use Rattle.laws.specs.Store.{tab}
use Rattle.laws.specs.Sum.{sum_to}
use Rattle.residual.proofs.Residual.{residual_size}
use Rattle.fixed.specs.Fixed.{floor_shift, half, round_exact}
use Rattle.sizes.specs.Shift.{shifts, lookup, first_shift}
use Rattle.kernels.specs.Dct.{dct, dct32}
use Rattle.kernels.specs.Kernel.{kernel, has_kernel}
use Rattle.lines.specs.Pass.{pass_sum}
use Rattle.block.specs.Block.{column_at, columns}
use Rattle.block.specs.NoWrap.{InLimit, Unwrapped, SmallSums, NoWrap, IsLargest, largest_sum}
use Rattle.block.proofs.Accepted.{kernels}
use Rattle.block.proofs.Exact.{columns_at, column_sum_small, column_exact, row_sum_small, row_pass_exact}

module _ {w h ck rk : ℕ} {residuals : List ℤ} (a : InLimit w h ck rk residuals) where
  small : (p : ℕ) → p < w * h → nat_abs (get_or residuals p (pos 0)) ≤ 4095
  small = residual_size (w * h) residuals a.small

  has : (has_kernel ck h ≡ true) × (has_kernel rk w ≡ true)
  has = kernels w h ck rk a.kinds

  unwrapped : Unwrapped w h ck rk residuals
  unwrapped =
      record {
        column = column_exact w h ck residuals a.wide a.high has.0 small;
        row =
            row_pass_exact w h ck residuals a.wide a.high has.0 small rk has.1 (columns w h ck residuals)
            (columns_at w h ck residuals);
      }

  small_sums : SmallSums w h ck rk residuals
  small_sums =
      record {
        column = column_sum_small w h ck residuals a.wide a.high has.0 small;
        row = row_sum_small w h ck residuals a.wide a.high has.0 small rk has.1;
      }

pub no_wrap : NoWrap
no_wrap w h ck rk residuals = unwrapped

pub is_largest : IsLargest
unfolding pass_sum sum_to kernel dct dct32 columns tab column_at round_exact floor_shift half first_shift lookup shifts largest_sum
is_largest = record { most = λ w h ck rk residuals. small_sums; reached = refl }
