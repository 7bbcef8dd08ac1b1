-- What one pass of the code leaves: two passes make the columns, then the rows, of a block. No public contract mentions it.
use Rattle.std.specs.Prelude.{List, ℕ, ◌+◌, ◌*◌, ◌/◌, ◌%◌, ◌≤◌, ◌<◌, ℤ, pos, nat_abs, get_or}
use Rattle.wht.specs.Wht.{line_of}

-- the WHT of column p / 4 of a block, at place p % 4
unfoldable pub turned : List ℤ → ℕ → ℤ
turned l p = line_of (λ k. get_or l (p / 4 + k * 4) (pos 0)) (p % 4)

-- each of the first 16 numbers is at most b in size
pub record Sized (b : ℕ) (l : List ℤ) : Type 0 where
  pub size : (k : ℕ) → k < 16 → nat_abs (get_or l k (pos 0)) ≤ b
