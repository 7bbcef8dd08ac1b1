-- Congruence of integers. No public contract mentions it.
use Rattle.std.specs.Prelude.{◌≡◌, ℕ, ℤ, pos, ◌+ℤ◌, ◌*ℤ◌}

-- a and b differ by a multiple of m
pub record Cong (m : ℕ) (a b : ℤ) : Type 0 where
  pub times : ℤ
  pub eq : a ≡ b +ℤ times *ℤ pos m
