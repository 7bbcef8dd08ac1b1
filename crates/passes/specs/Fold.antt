-- The DCT of all lines of a pass by one fold for every side: what it asks, and what it leaves. No public contract mentions it.
use Rattle.std.specs.Prelude.{◌≡◌, true, List, ℕ, suc, ◌+◌, ◌*◌, ◌/◌, ◌^◌, ◌≤◌, ◌<◌, ℤ}
use Rattle.laws.specs.Store.{grid}
use Rattle.fixed.specs.Fixed.{round_shift}
use Rattle.sizes.specs.Size.{is_side}
use Rattle.lines.specs.Line.{line_at, dot, Butterfly}
use Rattle.lines.specs.Pass.{pass_at}
use Rattle.lines.specs.Room.{on_line}
use Rattle.lines.specs.Table.{OddSquares, square_at}

-- lines lie side by side: row k has number k of each, and this is where number k of line j stands
abbrev pub row : ℕ → ℕ → ℕ → ℕ
row lines k = on_line lines k

-- b of some lines are worked at once, which leaves none over
pub record Abreast (b lines : ℕ) : Type 0 where
  pub some : 0 < b
  pub whole : b * (lines / b) ≡ lines

-- count rows of a pass's lines lie within a list of length l
pub record Rows (count lines l : ℕ) : Type 0 where
  pub sided : is_side lines ≡ true
  pub few : count ≤ 32
  pub inside : count * lines ≤ l

-- lines of 2h numbers, in a list of length l, may be folded to h sums and h differences, in lists of lengths ls and ld
pub record Halvable (h lines l ls ld : ℕ) : Type 0 where
  pub rows : Rows (2 * h) lines l
  pub sums : h * lines ≤ ls
  pub diffs : h * lines ≤ ld

-- and are so folded
abbrev pub HalvedLines : ℕ → ℕ → List ℤ → List ℤ → List ℤ → Type 0
HalvedLines h lines src sums diffs = (j : ℕ) → j < lines → Butterfly h (line_at src j lines) (line_at sums j lines) (line_at diffs j lines)

-- every step-th of m × step rows lies within a list of length lo
pub record RowRoom (m step lines lo : ℕ) : Type 0 where
  pub some : 0 < step
  pub small : m * step ≤ 32
  pub inside : m * step * lines ≤ lo

-- n has a half
abbrev pub Even : ℕ → Type 0
Even n = n ≡ 2 * (n / 2)

-- odd frequency r of 2h, of line j: row r of the odd square of h times the line's differences ds, rounded
abbrev pub odd_number : ℕ → ℕ → ℕ → List ℤ → List ℤ → ℕ → ℕ → ℤ
odd_number h shift lines ts ds r j = round_shift shift (dot h (line_at ts (square_at h + r * h) 1) (line_at ds j lines))

-- and the row that has it
abbrev pub odd_row : ℕ → ℕ → ℕ → ℕ → ℕ
odd_row lines step r = row lines ((2 * r + 1) * step)

-- m is 2 to a power from 1 to 5
pub record Power (m : ℕ) : Type 0 where
  pub e : ℕ
  pub is : m ≡ 2 ^ suc e
  pub small : e ≤ 4

-- what the fold of lines of m numbers asks, where m × step is the side: the odd squares; the lines, in a list of length ls; room for what they are folded
-- to, in one of length lw; and room for the frequencies
pub record Folding (m step lines ls lw lo : ℕ) (ts : List ℤ) : Type 0 where
  pub power : Power m
  pub squares : OddSquares m ts
  pub rows : Rows m lines ls
  pub work : m * lines ≤ lw
  pub room : RowRoom m step lines lo

-- what it leaves in o: the numbers of a pass at side m, frequency f in row f × step; every other row is as it was
abbrev pub Passed : ℕ → ℕ → ℕ → ℕ → List ℤ → List ℤ → List ℤ → Type 0
Passed m step shift lines src o o' = o' ≡ grid o m lines (λ f. row lines (f * step)) (λ f j. pass_at 0 m shift lines src j f)
