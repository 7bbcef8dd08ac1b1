-- A block's call: its answer, and its two buffers afterwards.
use Rattle.std.specs.Prelude.{Bool, not, ◌&&◌, ◌||◌, List, [], ◌∷◌, ℕ, ◌*◌, ◌/◌, ◌%◌, eqb, ltb, ℤ, length}
use Rattle.laws.specs.Store.{laid}
use Rattle.answer.specs.Answer.{Answer, lowest, after}
use Rattle.sizes.specs.Size.{is_side}
use Rattle.kernels.specs.Kernel.{has_kernel}
use Rattle.residual.specs.Residual.{residuals_ok}
use Rattle.block.specs.Block.{column_at, row_at}

-- a kind that a block may have: 0 (DCT); or 1 (ADST) where the block is square and its side, by `has_kernel`, isn't 32
unfoldable pub is_kind : ℕ → ℕ → ℕ → Bool
is_kind w h kind = eqb kind 0 || (eqb w h && has_kernel kind w)

-- number 2: "a kind isn't 0 (DCT) or 1 (ADST); or ADST is asked in a block that isn't square, or at side 32"
unfoldable pub has_kinds : ℕ → ℕ → ℕ → ℕ → Bool
has_kinds w h ck rk = is_kind w h ck && is_kind w h rk

-- "blocks and openings 1 to 4": ls and lo are the lengths of scratch and output
unfoldable pub refusals : ℕ → ℕ → ℕ → ℕ → List ℤ → ℕ → ℕ → List (Bool × ℕ)
refusals w h ck rk residuals ls lo =
    (not (is_side w && is_side h), 1) ∷
    (not (has_kinds w h ck rk), 2) ∷
    (ltb (length residuals) (w * h) || (ltb ls (w * h) || ltb lo (w * h)), 3) ∷
    (not (residuals_ok (w * h) residuals), 4) ∷ []

-- "A block returns w×h"
unfoldable pub block_answer : ℕ → ℕ → ℕ → ℕ → List ℤ → ℕ → ℕ → Answer
block_answer w h ck rk residuals ls lo = lowest (refusals w h ck rk residuals ls lo) (w * h)

-- "scratch and output each have w×h numbers written": the columns' pass, column line after column line
unfoldable pub scratch_after : ℕ → ℕ → ℕ → ℕ → List ℤ → List ℤ → ℕ → List ℤ
scratch_after w h ck rk residuals scratch lo =
    after (block_answer w h ck rk residuals (length scratch) lo)
    (laid scratch 0 (w * h) (λ p. column_at w h ck residuals (p / h) (p % h)))
    scratch

-- and the block, "row-major"
unfoldable pub output_after : ℕ → ℕ → ℕ → ℕ → List ℤ → ℕ → List ℤ → List ℤ
output_after w h ck rk residuals ls output =
    after (block_answer w h ck rk residuals ls (length output))
    (laid output 0 (w * h) (λ p. row_at w h ck rk residuals (p / w) (p % w)))
    output
