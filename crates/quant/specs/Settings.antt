-- The ranges of the settings, the step and a coefficient ("Levels", numbers 7 and 9).
use Rattle.std.specs.Prelude.{Bool, false, ◌&&◌, ℕ, leb, ℤ, pos, negsuc, Float}
use Rattle.std.specs.Float.{fin}
use Rattle.std.specs.Float.Ieee.{le}
use Rattle.fixed.specs.Limit.{is_within}
use Rattle.quant.specs.Float.{zero32, half32}
use Rattle.quant.specs.declared.Settings.{Settings}

-- lo ≤ x ≤ hi. A NaN compares with nothing, so it lies in no range; an infinity lies outside each range below
abbrev pub is_between : Float → Float → Float → Bool
is_between lo hi x = le lo x && le x hi

-- "step 1 to 1,048,576"
abbrev pub step_ok : ℕ → Bool
step_ok step = leb 1 step && leb step 1048576

-- "factor 1/1024 to 1024": -0.0 is 0, so it is refused
abbrev pub factor_ok : Float → Bool
factor_ok x = is_between (fin false 1 (negsuc 9)) (fin false 1 (pos 10)) x

-- "threshold 0 to 1,048,576": -0.0 equals 0, so it is taken, and every magnitude reaches it
abbrev pub threshold_ok : Float → Bool
threshold_ok x = is_between zero32 (fin false 1 (pos 20)) x

-- "dead zone 0 to 0.5": -0.0 equals 0, so it is taken, and levels are those of 0
abbrev pub dead_zone_ok : Float → Bool
dead_zone_ok x = is_between zero32 half32 x

unfoldable pub settings_ok : Settings → ℕ → Bool
settings_ok s step = step_ok step && factor_ok s.factor && threshold_ok s.threshold && dead_zone_ok s.dead_zone

-- a coefficient from -1048576 to 1048576
unfoldable pub coefficient_ok : ℤ → Bool
coefficient_ok c = is_within 1048576 c
