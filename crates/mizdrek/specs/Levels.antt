-- The answer for one place as the C interface gives it: a number, and two numbers written.
use Rattle.std.specs.Prelude.{false, ℤ, pos, neg_ℤ, Float}
use Rattle.std.specs.Float.{fin}
use Rattle.quant.specs.Place.{Said, refused, dropped, kept}
use Rattle.quant.specs.declared.Settings.{Settings}

-- the settings, of the three numbers that C hands over
abbrev pub settings_of : Float → Float → Float → Settings
settings_of factor threshold zone = record { factor = factor; threshold = threshold; dead_zone = zone }

-- 0 dropped, 1 kept, minus the number where the call is refused
abbrev pub signed_one : Said → ℤ
signed_one (refused k) = neg_ℤ (pos k)
signed_one (dropped m) = pos 0
signed_one (kept l m) = pos 1

-- "A dropped level is +0.0"
abbrev pub level_given : Said → Float → Float
level_given (refused k) old = old
level_given (dropped m) old = fin false 0 (pos 0)
level_given (kept l m) old = l

abbrev pub magnitude_given : Said → Float → Float
magnitude_given (refused k) old = old
magnitude_given (dropped m) old = m
magnitude_given (kept l m) old = m
