-- Some lines of a block's passes, as batches run them: any residuals, and sums that wrap.
use Rattle.std.specs.Prelude.{Bool, cond, List, ℕ, ◌+◌, ◌*◌, ◌/◌, ◌%◌, ℤ, pos, get_or}
use Rattle.laws.specs.Integer.{wrap32}
use Rattle.laws.specs.Store.{laid}
use Rattle.fixed.specs.Fixed.{scaled}
use Rattle.sizes.specs.Shift.{first_shift, second_shift}
use Rattle.lines.specs.Pass.{pass_at, pass_lines}
use Rattle.block.specs.Block.{rescaled}

-- scratch with count column lines from start on written: column line j is the h numbers from place j × h
unfoldable pub column_lines : ℕ → ℕ → ℕ → List ℤ → ℕ → ℕ → List ℤ → List ℤ
column_lines w h ck residuals start count scratch = pass_lines ck h (first_shift w h) w residuals start count scratch

-- output with count row lines from start on written, scaled where a block is: row line j is the w numbers from place j × w
unfoldable pub row_lines : ℕ → ℕ → ℕ → List ℤ → ℕ → ℕ → List ℤ → List ℤ
row_lines w h rk scratch start count output =
    laid output (start * w) (count * w) (λ p. rescaled w h (pass_at rk w (second_shift w h) h scratch (start + p / w) (p % w)))

-- lines of one of the passes: row lines, from the scratch buffer into the output, or column lines, from the residuals into scratch. No public
-- contract mentions it
abbrev pub lines_of : ℕ → ℕ → ℕ → ℕ → Bool → List ℤ → ℕ → ℕ → List ℤ → List ℤ
lines_of w h ck rk row source start count target =
    cond row (row_lines w h rk source start count target) (column_lines w h ck source start count target)

-- the number at place at + i, scaled at 64 bits. No public contract mentions it
abbrev pub scaled_at : List ℤ → ℕ → ℕ → ℤ
scaled_at l at i = wrap32 (scaled (get_or l (at + i) (pos 0)))
