-- The level and the magnitude of a coefficient ("Levels"). Each f32 operation is rounded once, in document 01's order.
use Rattle.std.specs.Prelude.{◌≡◌, cond, ℕ, ℤ, pos, Float}
use Rattle.std.specs.Float.{binary32}
use Rattle.std.specs.Float.Ieee.{add, sub, mul, div, le, of_int}
use Rattle.quant.specs.Float.{zero32, half32, abs_of, sign_of, max0_of, round_of}
use Rattle.quant.specs.declared.Settings.{Settings}

-- "inverse = factor / step"
abbrev pub inverse_of : Settings → ℕ → Float
inverse_of s step = div binary32 s.factor (of_int binary32 (pos step))

-- "dead zone - 0.5"
abbrev pub bias_of : Settings → Float
bias_of s = sub binary32 s.dead_zone half32

-- "coefficient × inverse"
abbrev pub product_of : Float → ℤ → Float
product_of inverse c = mul binary32 (of_int binary32 c) inverse

-- "the sign times the nearest whole number, half upward, of max(magnitude + (dead zone - 0.5), 0)", of a product p
abbrev pub whole_of : Float → Float → Float
whole_of bias p = mul binary32 (sign_of p) (round_of (max0_of (add binary32 (abs_of p) bias)))

-- the level of a product p: that whole number "when the magnitude reaches the threshold"; else "A dropped level is +0.0."
unfoldable pub level_of : Float → Float → Float → Float
level_of threshold bias p = cond (le threshold (abs_of p)) (whole_of bias p) zero32

-- ---- what is written for a coefficient: the Rust's numbers

-- "magnitude = absolute of (coefficient × inverse)"
unfoldable pub magnitude_at : Settings → ℕ → ℤ → Float
magnitude_at s step c = abs_of (product_of (inverse_of s step) c)

unfoldable pub level_at : Settings → ℕ → ℤ → Float
level_at s step c = level_of s.threshold (bias_of s) (product_of (inverse_of s step) c)

-- ---- the same by what settings and step come to. No public contract mentions it

-- what they come to
abbrev pub IsScale : Settings → ℕ → Float → Float → Float → Type 0
IsScale s step inverse threshold bias = (inverse ≡ inverse_of s step) × (threshold ≡ s.threshold) × (bias ≡ bias_of s)

abbrev pub magnitude_by : Float → ℤ → Float
magnitude_by inverse c = abs_of (product_of inverse c)

abbrev pub level_by : Float → Float → Float → ℤ → Float
level_by inverse threshold bias c = level_of threshold bias (product_of inverse c)
