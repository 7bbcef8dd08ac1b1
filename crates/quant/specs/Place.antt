-- The answer for one place ("One place also has a call of its own").
use Rattle.std.specs.Prelude.{Bool, cond, ℕ, ℤ, Float, Result, Ok, Err}
use Rattle.std.specs.Float.Ieee.{le}
use Rattle.answer.specs.Answer.{number_of}
use Rattle.quant.specs.Level.{level_at, magnitude_at}
use Rattle.quant.specs.Settings.{settings_ok, coefficient_ok}
use Rattle.quant.specs.declared.Settings.{Settings}
use Rattle.answer.specs.declared.Refusal.{Refusal}
use Rattle.quant.specs.declared.Place.{Place}
use Rattle.quant.specs.declared.Place.TheVariants.{Dropped, Kept}

-- "each coefficient is either dropped with its magnitude or kept with level and magnitude", or the call is refused by its number
pub data Said : Type 0 where
  refused : ℕ → Said
  dropped : Float → Said
  kept : Float → Float → Said

-- what an answer of the call says
abbrev pub said : Result Place Refusal → Said
said (Err r) = refused (number_of r)
said (Ok (Dropped magnitude)) = dropped magnitude
said (Ok (Kept level magnitude)) = kept level magnitude

-- "It is kept when the magnitude reaches the threshold."
abbrev pub is_kept : Settings → ℕ → ℤ → Bool
is_kept s step c = le s.threshold (magnitude_at s step c)

unfoldable pub place_of : Settings → ℕ → ℤ → Said
place_of s step c = cond (is_kept s step c) (kept (level_at s step c) (magnitude_at s step c)) (dropped (magnitude_at s step c))

-- "it refuses 7, then 9"
unfoldable pub one_answer : Settings → ℕ → ℤ → Said
one_answer s step c =
    cond (settings_ok s step) (cond (coefficient_ok c) (place_of s step c) (refused 9)) (refused 7)
