-- Every number that is written is finite: neither a NaN nor an infinity. It is the archive's reason for the work: "clear leader leaves every
-- residual at zero. With a step of zero the quantizer multiplies that zero by infinity, magnitudes become NaN, and the frame choices of a reel
-- are saved from them."
use Rattle.std.specs.Prelude.{true, List, ◌≡◌, ℕ, ◌<◌, T, ℤ, pos, Float, length, get_or}
use Rattle.std.specs.Float.Ieee.Scale.{finite}
use Rattle.answer.specs.Answer.{answers}
use Rattle.quant.specs.Float.{zero32}
use Rattle.quant.specs.Level.{magnitude_at, level_at}
use Rattle.quant.specs.Place.{Said, refused, dropped, kept, one_answer}
use Rattle.quant.specs.Scan.{scan_answer, levels_after, magnitudes_after}
use Rattle.quant.specs.Settings.{settings_ok, coefficient_ok}
use Rattle.quant.specs.declared.Settings.{Settings}

-- each accepted coefficient has a finite magnitude and a finite level, under all settings and steps that are accepted
abbrev pub AlwaysFinite : Type 0
AlwaysFinite =
    (s : Settings) (step : ℕ) (c : ℤ) → settings_ok s step ≡ true → coefficient_ok c ≡ true
    → T (finite (magnitude_at s step c)) × T (finite (level_at s step c))

-- "that zero" stays zero under all of them: magnitude +0.0, level +0.0
abbrev pub ZeroStays : Type 0
ZeroStays = (s : Settings) (step : ℕ) → settings_ok s step ≡ true → (magnitude_at s step (pos 0) ≡ zero32) × (level_at s step (pos 0) ≡ zero32)

-- a buffer that has n numbers, of which the first n are finite: z is what would be read past its end
abbrev pub FirstFinite : ℕ → List Float → Type 0
FirstFinite n buffer = (i : ℕ) → i < n → (z : Float) → T (finite (get_or buffer i z))

-- every number that an accepted call over a scan writes, into levels and into magnitudes
abbrev pub ScanFinite : Type 0
ScanFinite =
    (width step : ℕ) (s : Settings) (coefficients : List ℤ) (scan : List ℕ) (levels magnitudes : List Float) (n : ℕ)
    → scan_answer width step s coefficients scan (length levels) (length magnitudes) ≡ answers n
    → FirstFinite (length scan) (levels_after width step s coefficients scan levels magnitudes)
    × FirstFinite (length scan) (magnitudes_after width step s coefficients scan levels magnitudes)

-- the numbers of the answer for one place; a refused call has none
abbrev pub AllFinite : Said → Type 0
AllFinite (refused k) = Unit {0}
AllFinite (dropped magnitude) = T (finite magnitude)
AllFinite (kept level magnitude) = T (finite level) × T (finite magnitude)

-- every answer for one place
abbrev pub OneFinite : Type 0
OneFinite = (s : Settings) (step : ℕ) (c : ℤ) → AllFinite (one_answer s step c)
