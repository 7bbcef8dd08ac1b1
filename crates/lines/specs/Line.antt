-- What the pieces of a line give, over the integers. No public contract mentions them.
use Rattle.std.specs.Prelude.{List, ◌≡◌, ℕ, ◌+◌, ◌-◌, ◌*◌, ◌≤◌, ◌<◌, ℤ, pos, ◌+ℤ◌, ◌-ℤ◌, ◌*ℤ◌, get_or}
use Rattle.laws.specs.Integer.{wrap32}
use Rattle.laws.specs.Store.{stores}
use Rattle.laws.specs.Sum.{sum_to}
use Rattle.fixed.specs.Fixed.{round_shift}
use Rattle.lines.specs.Table.{OddSquare, square_at}

-- number k of a line that begins at at and has a number every stride places
abbrev pub line_at : List ℤ → ℕ → ℕ → ℕ → ℤ
line_at xs at stride k = get_or xs (k * stride + at) (pos 0)

-- n such numbers end within a list of length l: the last stands (n - 1) × stride places after at
pub record EndsIn (n stride at l : ℕ) : Type 0 where
  pub last : n * stride + at < stride + l

-- the sum of the products of n numbers with n others
unfoldable pub dot : ℕ → (ℕ → ℤ) → (ℕ → ℤ) → ℤ
dot n a b = sum_to n (λ k. a k *ℤ b k)

-- the places from at on, those of a list from its front, and its numbers
abbrev pub from : ℕ → ℕ → ℕ
from at f = at + f

abbrev pub itself : ℕ → ℕ
itself f = f

abbrev pub number : List ℤ → ℕ → ℤ
number os f = get_or os f (pos 0)

-- the places first, first + apart, ..
abbrev pub place : ℕ → ℕ → ℕ → ℕ
place first apart r = first + r * apart

-- frequency r of a square of n × n numbers that stands in ts from square on: its numbers, one of each sample, times the line z, rounded
abbrev pub rounded : ℕ → ℕ → List ℤ → ℕ → (ℕ → ℤ) → ℕ → ℤ
rounded shift n ts square z r = round_shift shift (dot n (line_at ts (square + r) n) z)

-- the k-th of a line z from the front with the k-th from the back, of 2h
abbrev pub sum_of : (ℕ → ℤ) → ℕ → ℕ → ℤ
sum_of z h k = wrap32 (z k +ℤ z (2 * h - 1 - k))

abbrev pub diff_of : (ℕ → ℤ) → ℕ → ℕ → ℤ
diff_of z h k = wrap32 (z k -ℤ z (2 * h - 1 - k))

-- what a fold leaves of a line z: h sums s and h differences d
pub record Butterfly (h : ℕ) (z s d : ℕ → ℤ) : Type 0 where
  pub sums : (k : ℕ) → k < h → s k ≡ sum_of z h k
  pub diffs : (k : ℕ) → k < h → d k ≡ diff_of z h k

-- what `halve` leaves of a line z: h sums in ss, and in o' the odd frequencies, from the differences ds
pub record Halved (h step shift : ℕ) (ts : List ℤ) (z : ℕ → ℤ) (o ss o' : List ℤ) : Type 0 where
  pub ds : List ℤ
  pub butterfly : Butterfly h z (number ss) (number ds)
  pub odd : o' ≡ stores o h (place step (2 * step)) (rounded shift h ts (square_at h) (line_at ds 0 1))

-- what `halve` asks: a line of twice as many numbers as its h sums, the odd square of h, and room in o, of length lo, for the odd frequencies
pub record Halving (h step count lo : ℕ) (ts : List ℤ) : Type 0 where
  pub some : 0 < h
  pub few : h ≤ 16
  pub twice : count ≡ 2 * h
  pub spaced : step ≤ 16
  pub square : OddSquare h ts
  pub stored : (r : ℕ) → r < h → place step (2 * step) r < lo
