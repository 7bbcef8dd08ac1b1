-- What `mizdrek_quantize_one` leaves in the two numbers that it is lent.
use Rattle.std.specs.Prelude.{true, false, ◌≡◌, ℕ, T, ℤ, Float}
use Rattle.std.specs.Float.Ieee.Scale.{finite}
use Rattle.std.specs.Int.Signed.{non_neg}
use Rattle.quant.specs.Place.{Said, one_answer}
use Rattle.quant.specs.declared.Settings.{Settings}
use Rattle.mizdrek.specs.Levels.{signed_one, level_given, magnitude_given}

-- for a caller that lends level and magnitude: where it is answered 0 or 1 both are finite, and where it is answered less both are as they were
pub record Left (a : Said) (level magnitude : Float) : Type 0 where
  pub accepted : non_neg (signed_one a) ≡ true → T (finite (level_given a level)) × T (finite (magnitude_given a magnitude))
  pub refused : non_neg (signed_one a) ≡ false → (level_given a level ≡ level) × (magnitude_given a magnitude ≡ magnitude)

-- of every call
abbrev pub LeftFinite : Type 0
LeftFinite = (s : Settings) (step : ℕ) (c : ℤ) (level magnitude : Float) → Left (one_answer s step c) level magnitude
