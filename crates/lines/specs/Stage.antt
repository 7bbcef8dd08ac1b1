-- A DCT by stages: what is left of a line on its way, and what is settled of its frequencies. No public contract mentions it.
use Rattle.std.specs.Prelude.{◌≡◌, List, ℕ, ◌+◌, ◌*◌, ◌^◌, ◌≤◌, ◌<◌, ℤ, pos, ◌*ℤ◌, length, get_or}
use Rattle.laws.specs.Sum.{sum_to}
use Rattle.laws.specs.Congruence.{Cong}
use Rattle.fixed.specs.Fixed.{round_shift}
use Rattle.kernels.specs.Dct.{dct}
use Rattle.lines.specs.Table.{OddSquares}

-- frequency f of a line x of n numbers, exactly
unfoldable pub dct_sum : ℕ → ℕ → (ℕ → ℤ) → ℤ
dct_sum n f x = sum_to n (λ k. dct n f k *ℤ x k)

-- m numbers z are left of a line x of n: modulo 2 ^ 32 they are y, whose frequencies at side m are every s-th of x at side n
pub record Folded (n s m : ℕ) (x z : ℕ → ℤ) : Type 0 where
  pub y : ℕ → ℤ
  pub held : (k : ℕ) → k < m → Cong (2 ^ 32) (z k) (y k)
  pub rows : (g : ℕ) → g < m → dct_sum n (g * s) x ≡ dct_sum m g y

-- every frequency that is no multiple of s stands in o
pub record Settled (n s shift : ℕ) (x : ℕ → ℤ) (o : List ℤ) : Type 0 where
  pub at : (q r : ℕ) → 0 < r → r < s → q * s + r < n → get_or o (q * s + r) (pos 0) ≡ round_shift shift (dct_sum n (q * s + r) x)

-- a line on its way: what is left of it, and what is settled
pub record Partly (n s m shift : ℕ) (x z : ℕ → ℤ) (o : List ℤ) : Type 0 where
  pub left : Folded n s m x z
  pub settled : Settled n s shift x o
  pub long : n ≤ length o

-- every frequency stands in o
pub record Finished (n shift : ℕ) (x : ℕ → ℤ) (o : List ℤ) : Type 0 where
  pub at : (f : ℕ) → f < n → get_or o f (pos 0) ≡ round_shift shift (dct_sum n f x)

-- what the stages from m numbers on ask, where m × step is the side: the odd squares; the line, of count numbers; and room for all frequencies
pub record Staging (m step count lo : ℕ) (ts : List ℤ) : Type 0 where
  pub some : 0 < step
  pub small : m * step ≤ 32
  pub squares : OddSquares m ts
  pub whole : count ≡ m
  pub room : m * step ≤ lo

-- what they leave of a line that is on its way, of which z is left: every frequency
abbrev pub Completes : ℕ → ℕ → ℕ → (ℕ → ℤ) → List ℤ → List ℤ → Type 0
Completes m step shift z o o' = (x : ℕ → ℤ) → Partly (m * step) step m shift x z o → Finished (m * step) shift x o'
