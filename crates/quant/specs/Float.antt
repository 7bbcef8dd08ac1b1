-- The f32 functions that the quantizer needs and the program works out, over the values of lib.Ieee.
use Rattle.std.specs.Prelude.{Bool, false, not, cond, ℕ, ◌+◌, ◌*◌, ◌/◌, pos, negsuc}
use lib.Ieee.{Float, nan, inf, fin, binary32, up, down, lt, of_int}

abbrev pub zero32 : Float
zero32 = fin false 0 (pos 0)

-- no public contract mentions it
abbrev pub one32 : Float
one32 = fin false 1 (pos 0)

abbrev pub half32 : Float
half32 = fin false 1 (negsuc 0)

-- whether the sign's bit is set; a NaN has none here. No public contract mentions it
abbrev pub negative : Float → Bool
negative nan = false
negative (inf s) = s
negative (fin s m e) = s

-- the absolute: x without its sign
abbrev pub abs_of : Float → Float
abs_of nan = nan
abs_of (inf s) = inf false
abs_of (fin s m e) = fin false m e

-- the sign, as 1 or -1: -1 for -0.0 too
abbrev pub sign_of : Float → Float
sign_of nan = nan
sign_of (inf s) = fin s 1 (pos 0)
sign_of (fin s m e) = fin s 1 (pos 0)

-- max(x, 0): +0.0 for whatever is not above zero, both zeros and a NaN among them
unfoldable pub max0_of : Float → Float
max0_of x = cond (lt zero32 x) x zero32

-- no NaN, and the sign's bit clear: from +0.0 up, the infinity counted. No public contract mentions it
abbrev pub has_no_sign : Float → Bool
has_no_sign nan = false
has_no_sign (inf s) = not s
has_no_sign (fin s m e) = not s

-- the whole number nearest to a / c, half upward: the whole part of a / c + 1 / 2
abbrev pub half_up : ℕ → ℕ → ℕ
half_up a c = (2 * a + c) / (2 * c)

-- the nearest whole number, half upward, of an x that is `has_no_sign`: x is m times 2 ^ e, which is up e / down e. The infinity stays
unfoldable pub round_of : Float → Float
round_of nan = nan
round_of (inf s) = inf s
round_of (fin s m e) = of_int binary32 (pos (half_up (m * up e) (down e)))
