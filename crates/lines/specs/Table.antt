-- A kernel's numbers as they are widened. No public contract mentions them.
use Rattle.std.specs.Prelude.{◌≡◌, List, ℕ, ◌+◌, ◌*◌, ◌/◌, ◌%◌, ◌^◌, ◌≤◌, ◌<◌, ℤ, pos, length, get_or}
use Rattle.kernels.specs.Mirror.{odd_half}

-- the numbers of a list from a place on
abbrev pub from_place : List ℤ → ℕ → ℕ → ℤ
from_place ts at k = get_or ts (at + k) (pos 0)

-- place p of a square of rows of n numbers, where row r begins at place first + r × apart
abbrev pub row_number : List ℤ → ℕ → ℕ → ℕ → ℕ → ℤ
row_number ts first apart n p = from_place ts (first + p / n * apart) (p % n)

-- where the odd square of h stands, after those of 1, 2, 4, .. below it: 0, 1, 5, 21 and 85
abbrev pub square_at : ℕ → ℕ
square_at h = h * h / 3

-- it stands there in ts, row by row: the odd frequencies of side 2h over the first h samples. Since it is symmetric (`OddSymmetry`), row k has sample k's
-- numbers for all of them as well
pub record OddSquare (h : ℕ) (ts : List ℤ) : Type 0 where
  pub inside : square_at h + h * h ≤ length ts
  pub entry : (r k : ℕ) → r < h → k < h → get_or ts (square_at h + (r * h + k)) (pos 0) ≡ odd_half h r k

-- those that a line of n numbers reads on its way to one number, n a power of two
abbrev pub OddSquares : ℕ → List ℤ → Type 0
OddSquares n ts = (d : ℕ) → 2 * 2 ^ d ≤ n → OddSquare (2 ^ d) ts
