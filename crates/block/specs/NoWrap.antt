-- "In a block within the residual limit no wrap occurs: the largest sum before rounding is 2,146,959,360."
use Rattle.std.specs.Prelude.{◌≡◌, true, List, ℕ, ◌*◌, ◌≤◌, ◌<◌, ℤ, pos, nat_abs, replicate}
use Rattle.fixed.specs.Fixed.{round_exact}
use Rattle.sizes.specs.Size.{is_side}
use Rattle.sizes.specs.Shift.{first_shift, second_shift}
use Rattle.residual.specs.Residual.{residuals_ok}
use Rattle.lines.specs.Pass.{pass_sum, pass_at}
use Rattle.block.specs.Call.{has_kinds}
use Rattle.block.specs.Block.{column_at, columns}

-- a block within the residual limit: numbers 1, 2 and 4 don't apply
pub record InLimit (w h ck rk : ℕ) (residuals : List ℤ) : Type 0 where
  pub wide : is_side w ≡ true
  pub high : is_side h ≡ true
  pub kinds : has_kinds w h ck rk ≡ true
  pub small : residuals_ok (w * h) residuals ≡ true

-- the numbers of both passes worked at 32 bits, which wraps, are the exact ones: line j, frequency f
pub record Unwrapped (w h ck rk : ℕ) (residuals : List ℤ) : Type 0 where
  pub column : (j f : ℕ) → j < w → f < h → pass_at ck h (first_shift w h) w residuals j f ≡ column_at w h ck residuals j f
  pub row : (j f : ℕ) → j < h → f < w
      → pass_at rk w (second_shift w h) h (columns w h ck residuals) j f ≡ round_exact (second_shift w h) (pass_sum rk w h (columns w h ck residuals) j f)

-- "no wrap occurs"
abbrev pub NoWrap : Type 0
NoWrap = (w h ck rk : ℕ) (residuals : List ℤ) → InLimit w h ck rk residuals → Unwrapped w h ck rk residuals

-- "the largest sum before rounding"
unfoldable pub largest_sum : ℕ
largest_sum = 2146959360

-- no sum of either pass is larger: line j, frequency f
pub record SmallSums (w h ck rk : ℕ) (residuals : List ℤ) : Type 0 where
  pub column : (j f : ℕ) → j < w → f < h → nat_abs (pass_sum ck h w residuals j f) ≤ largest_sum
  pub row : (j f : ℕ) → j < h → f < w → nat_abs (pass_sum rk w h (columns w h ck residuals) j f) ≤ largest_sum

-- it is the largest: none is larger, and 32×32 residuals of 4095 reach it, at the first number of the rows' pass
pub record IsLargest : Type 0 where
  pub most : (w h ck rk : ℕ) (residuals : List ℤ) → InLimit w h ck rk residuals → SmallSums w h ck rk residuals
  pub reached : pass_sum 0 32 32 (columns 32 32 0 (replicate 1024 (pos 4095))) 0 0 ≡ pos largest_sum
