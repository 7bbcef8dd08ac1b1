-- "A pass": the number of a line at a frequency.
use Rattle.std.specs.Prelude.{List, ℕ, ◌+◌, ◌*◌, ◌/◌, ◌%◌, ℤ, pos, ◌*ℤ◌, get_or}
use Rattle.laws.specs.Sum.{sum_to}
use Rattle.laws.specs.Store.{laid}
use Rattle.fixed.specs.Fixed.{round_shift}
use Rattle.kernels.specs.Kernel.{kernel}

-- "The sum over k of kernel(f, k) times input", of line j. "Input is src[k × line + j]": lines is how many lines there are, document 01's line
unfoldable pub pass_sum : ℕ → ℕ → ℕ → List ℤ → ℕ → ℕ → ℤ
pass_sum kind n lines src j f = sum_to n (λ k. kernel kind n f k *ℤ get_or src (k * lines + j) (pos 0))

-- that sum, "plus 2^(shift-1), is reduced to signed 32 bits by wrapping, then floored after division by 2^shift"
unfoldable pub pass_at : ℕ → ℕ → ℕ → ℕ → List ℤ → ℕ → ℕ → ℤ
pass_at kind n shift lines src j f = round_shift shift (pass_sum kind n lines src j f)

-- dst with count lines from start on written, "output dst[j × n + f]", and every other number as it was
unfoldable pub pass_lines : ℕ → ℕ → ℕ → ℕ → List ℤ → ℕ → ℕ → List ℤ → List ℤ
pass_lines kind n shift lines src start count dst =
    laid dst (start * n) (count * n) (λ p. pass_at kind n shift lines src (start + p / n) (p % n))
