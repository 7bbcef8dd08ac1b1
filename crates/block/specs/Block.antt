-- "A block": two rounded passes over exact integers, then the 5793 / 4096 rule where the logarithms of the sides add to an odd number.
use Rattle.std.specs.Prelude.{Bool, cond, List, ℕ, ◌+◌, ◌*◌, ◌/◌, ◌%◌, eqb, ℤ}
use Rattle.laws.specs.Store.{tab}
use Rattle.fixed.specs.Fixed.{round_exact, scaled}
use Rattle.sizes.specs.Size.{log_of}
use Rattle.sizes.specs.Shift.{first_shift, second_shift}
use Rattle.lines.specs.Pass.{pass_sum}

-- "Columns first, side h over w lines": column line j, frequency f, of a block w wide and h high with columns of kind ck
unfoldable pub column_at : ℕ → ℕ → ℕ → List ℤ → ℕ → ℕ → ℤ
column_at w h ck residuals j f = round_exact (first_shift w h) (pass_sum ck h w residuals j f)

-- the scratch buffer's w × h numbers after that
unfoldable pub columns : ℕ → ℕ → ℕ → List ℤ → List ℤ
columns w h ck residuals = tab (w * h) (λ p. column_at w h ck residuals (p / h) (p % h))

-- log2 w + log2 h is odd
unfoldable pub is_odd : ℕ → ℕ → Bool
is_odd w h = eqb ((log_of w + log_of h) % 2) 1

-- "If log2 w + log2 h is odd, each v becomes floor((5793v + 2048)/4096)"
unfoldable pub rescaled : ℕ → ℕ → ℤ → ℤ
rescaled w h v = cond (is_odd w h) (scaled v) v

-- "rows second, side w over h lines": row line j, frequency f, scaled where a block is
unfoldable pub row_at : ℕ → ℕ → ℕ → ℕ → List ℤ → ℕ → ℕ → ℤ
row_at w h ck rk residuals j f =
    rescaled w h (round_exact (second_shift w h) (pass_sum rk w h (columns w h ck residuals) j f))
