-- Rounding and scaling, over the integers ("A pass", "A block").
use Rattle.std.specs.Prelude.{◌≡◌, Bool, ◌&&◌, ℕ, zero, suc, ◌^◌, ℤ, pos, ◌+ℤ◌, ◌*ℤ◌}
use Rattle.std.specs.Int.Signed.{le_z}
use Rattle.laws.specs.Integer.{floor_div, wrap32}

-- "takes 0 to 15": the shifts that a pass may have. No other definition says so
unfoldable pub is_shift : ℤ → Bool
is_shift shift = le_z (pos 0) shift && le_z shift (pos 15)

-- z / 2 ^ s, rounded down: "floored after division by 2^shift"
unfoldable pub floor_shift : ℕ → ℤ → ℤ
floor_shift s z = floor_div z (2 ^ s)

-- what is added before: "plus 2^(shift-1)"; nothing at shift 0
unfoldable pub half : ℕ → ℤ
half zero = pos 0
half (suc s) = pos (2 ^ s)

-- a sum rounded exactly
unfoldable pub round_exact : ℕ → ℤ → ℤ
round_exact s z = floor_shift s (z +ℤ half s)

-- a pass's rounding: the sum plus 2^(shift-1) "is reduced to signed 32 bits by wrapping, then floored after division by 2^shift"
unfoldable pub round_shift : ℕ → ℤ → ℤ
round_shift s z = floor_shift s (wrap32 (z +ℤ half s))

-- a rounding as a pass makes it: the sum begins at the half, and is shifted when all is added. At shift 0 it begins at 0
abbrev pub StartsAtHalf : Type 0
StartsAtHalf = (s : ℕ) (z : ℤ) → floor_shift s (wrap32 (half s +ℤ z)) ≡ round_shift s z

-- "floor((5793v + 2048)/4096)"
unfoldable pub scaled : ℤ → ℤ
scaled v = floor_div (pos 5793 *ℤ v +ℤ pos 2048) 4096

-- "returning its number unchanged at 0": a number of 32 bits, which is one that wrapping leaves as it is
abbrev pub Unchanged : Type 0
Unchanged = (z : ℤ) → wrap32 z ≡ z → round_shift 0 z ≡ z
