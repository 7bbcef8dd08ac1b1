-- All the lines of an accepted block: what its two buffers hold afterwards. Assumes nothing.
use mathlib.Core.Path.{◌≡◌, refl, ap, ◌∙◌}
use mathlib.Core.List.{List}
use Prim.Native.Nat.{ℕ, ◌+◌, ◌*◌, ◌/◌, ◌%◌, ◌≤◌, ◌<◌}
use native.Mathlib.Nat.{mul_comm}
use native.Mathlib.Omega.{arith}
use lib.IntN.{ℤ, pos, nat_abs}
use lib.ListN.{length, get_or}
use Rattle.laws.specs.Store.{laid}
use Rattle.laws.proofs.Filled.{front_line}
use Rattle.laws.proofs.Laid.{laid_from_zero}
use Rattle.residual.proofs.Residual.{residual_size}
use Rattle.block.specs.Block.{column_at, row_at}
use Rattle.block.specs.Lines.{column_lines, row_lines}
use Rattle.block.specs.Room.{BlockRoom}
use Rattle.block.proofs.Accepted.{Accepted}
use Rattle.block.proofs.Room.{lines_asked}
use Rattle.block.proofs.Exact.{column_lines_exact, row_lines_exact}

module _ {w h ck rk : ℕ} {residuals : List ℤ} {ls lo : ℕ} (a : Accepted w h ck rk residuals ls lo) where
  small : (p : ℕ) → p < w * h → nat_abs (get_or residuals p (pos 0)) ≤ 4095
  small = residual_size (w * h) residuals a.small

  pub columns_asked : BlockRoom w h (0 + w) w h (length residuals) ls
  columns_asked = lines_asked (omega arith) refl a.residuals_long a.scratch_long

  pub rows_asked : BlockRoom w h (0 + h) h w ls lo
  rows_asked = lines_asked (omega arith) (mul_comm h w) a.scratch_long a.output_long

  pub all_columns : (scratch : List ℤ) {s : List ℤ} → s ≡ column_lines w h ck residuals 0 w scratch
      → s ≡ laid scratch 0 (w * h) (λ p. column_at w h ck residuals (p / h) (p % h))
  all_columns scratch e =
      e ∙ column_lines_exact w h ck residuals a.wide a.high a.column_kernel small 0 w scratch (omega arith)
      ∙ laid_from_zero h (w * h) (column_at w h ck residuals) scratch

  -- each column line stands in the scratch buffer
  held : (scratch : List ℤ) → w * h ≤ length scratch → {s : List ℤ} → s ≡ column_lines w h ck residuals 0 w scratch
      → (j f : ℕ) → j < w → f < h → get_or s (j * h + f) (pos 0) ≡ column_at w h ck residuals j f
  held scratch long e j f bj bf =
      ap (λ (l : List ℤ). get_or l (j * h + f) (pos 0)) (all_columns scratch e) ∙ front_line scratch w h (column_at w h ck residuals) (pos 0) long j f bj bf

  pub all_rows : (scratch output : List ℤ) → w * h ≤ length scratch → {s o : List ℤ} → s ≡ column_lines w h ck residuals 0 w scratch
      → o ≡ row_lines w h rk s 0 h output → o ≡ laid output 0 (w * h) (λ p. row_at w h ck rk residuals (p / w) (p % w))
  all_rows scratch output long {s} e u =
      u
      ∙ row_lines_exact w h ck residuals a.wide a.high a.column_kernel small rk a.row_kernel s (held scratch long e) 0 h output (omega arith)
      ∙ laid_from_zero w (h * w) (row_at w h ck rk residuals) output
      ∙ ap (λ (n : ℕ). laid output 0 n (λ p. row_at w h ck rk residuals (p / w) (p % w))) (mul_comm h w)
