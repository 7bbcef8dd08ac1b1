-- The residual limit of number 4, overdriven.
use Rattle.std.specs.Prelude.{Bool, List, ℕ, ℤ}
use Rattle.fixed.specs.Limit.{all_within}

-- each of the first n residuals lies from -4095 to 4095
unfoldable pub residuals_ok : ℕ → List ℤ → Bool
residuals_ok n l = all_within 4095 n l
