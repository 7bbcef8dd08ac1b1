-- A pass's call: its answer, and its output afterwards.
use Rattle.std.specs.Prelude.{not, ◌&&◌, ◌||◌, List, [], ◌∷◌, ℕ, ◌*◌, ltb, ℤ, nat_abs, length}
use Rattle.answer.specs.Answer.{Answer, lowest, after}
use Rattle.fixed.specs.Fixed.{is_shift}
use Rattle.sizes.specs.Size.{is_side}
use Rattle.kernels.specs.Kernel.{has_kernel}
use Rattle.lines.specs.Pass.{pass_lines}

-- "passes 1 to 3", and of a shift "Number 1 now begins at shift 16, or below 0"; ls and ld are the lengths of src and dst. "A pass answers side times
-- lines, the count of numbers written."
unfoldable pub pass_answer : ℕ → ℕ → ℤ → ℕ → ℕ → ℕ → Answer
pass_answer side kind shift lines ls ld =
    lowest
    ((not (is_side side && (is_side lines && is_shift shift)), 1) ∷
    (not (has_kernel kind side), 2) ∷
    (ltb ls (side * lines) || ltb ld (side * lines), 3) ∷ [])
    (side * lines)

-- every line written, "output dst[j × n + f]", and what lies past them as it was
unfoldable pub pass_after : ℕ → ℕ → ℤ → ℕ → List ℤ → List ℤ → List ℤ
pass_after side kind shift lines src dst =
    after (pass_answer side kind shift lines (length src) (length dst))
    (pass_lines kind side (nat_abs shift) lines src 0 lines dst)
    dst
