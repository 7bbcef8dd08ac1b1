-- The levels and magnitudes of a scan ("Levels", numbers 1, 3, 7, 8, 9).
use Rattle.std.specs.Prelude.{Bool, cond, not, ◌&&◌, ◌||◌, List, [], ◌∷◌, ◌++◌, ℕ, ◌+◌, ◌*◌, ◌/◌, ◌%◌, ltb, eqb, ℤ, pos, Float, length, get_or}
use Rattle.answer.specs.Answer.{Answer, lowest, after}
use Rattle.laws.specs.Store.{laid}
use Rattle.laws.specs.Table.{every}
use Rattle.sizes.specs.Size.{is_side}
use Rattle.quant.specs.Level.{level_at, magnitude_at}
use Rattle.quant.specs.Settings.{settings_ok, coefficient_ok}
use Rattle.quant.specs.declared.Settings.{Settings}

-- "if the second entry exists and equals the width"
unfoldable pub is_by_width : ℕ → List ℕ → Bool
is_by_width width scan = ltb 1 (length scan) && eqb (get_or scan 1 0) width

-- "Scan place rc means rc if [the reading is by width], else (rc mod 32) × width + floor(rc/32)."
unfoldable pub meant : Bool → ℕ → ℕ → ℕ
meant direct width rc = cond direct rc (rc % 32 * width + rc / 32)

-- the place that entry i of the scan means, and the coefficient that it names
unfoldable pub place_at : ℕ → List ℕ → ℕ → ℕ
place_at width scan i = meant (is_by_width width scan) width (get_or scan i 0)

unfoldable pub named_at : ℕ → List ℤ → List ℕ → ℕ → ℤ
named_at width coefficients scan i = get_or coefficients (place_at width scan i) (pos 0)

-- number 8: "a scan is longer than 1,024, or a place it means isn't below the length of the lent coefficient buffer"
unfoldable pub is_bad_scan : ℕ → ℕ → List ℕ → Bool
is_bad_scan width room scan = ltb 1024 (length scan) || not (every (length scan) (λ i. ltb (place_at width scan i) room))

-- number 9: "a coefficient named by the scan lies outside -1048576 to 1048576"
unfoldable pub has_bad_coefficient : ℕ → List ℤ → List ℕ → Bool
has_bad_coefficient width coefficients scan = not (every (length scan) (λ i. coefficient_ok (named_at width coefficients scan i)))

-- numbers 1, 3 and 7, with a scan of n entries and buffers of the lengths levels and magnitudes
abbrev pub first_refusals : ℕ → ℕ → Settings → ℕ → ℕ → ℕ → List (Bool × ℕ)
first_refusals width step settings n levels magnitudes =
    (not (is_side width), 1) ∷ (ltb levels n || ltb magnitudes n, 3) ∷ (not (settings_ok settings step), 7) ∷ []

-- numbers 8 and 9
abbrev pub scan_refusals : ℕ → List ℤ → List ℕ → List (Bool × ℕ)
scan_refusals width coefficients scan = (is_bad_scan width (length coefficients) scan, 8) ∷ (has_bad_coefficient width coefficients scan, 9) ∷ []

-- the answer of a call that numbers 1, 3 and 7 don't refuse. No public contract mentions it
unfoldable pub named_answer : ℕ → List ℤ → List ℕ → Answer
named_answer width coefficients scan = lowest (scan_refusals width coefficients scan) (length scan)

-- "answers the scan length; an empty scan answers 0"
unfoldable pub scan_answer : ℕ → ℕ → Settings → List ℤ → List ℕ → ℕ → ℕ → Answer
scan_answer width step settings coefficients scan levels magnitudes =
    lowest (first_refusals width step settings (length scan) levels magnitudes ++ scan_refusals width coefficients scan) (length scan)

-- "one level and one magnitude per scan entry": a buffer after an accepted call, by what is written for a coefficient
unfoldable pub scanned : (ℤ → Float) → ℕ → List ℤ → List ℕ → List Float → List Float
scanned of width coefficients scan buffer = laid buffer 0 (length scan) (λ i. of (named_at width coefficients scan i))

-- the two buffers after the call
unfoldable pub levels_after : ℕ → ℕ → Settings → List ℤ → List ℕ → List Float → List Float → List Float
levels_after width step settings coefficients scan levels magnitudes =
    after (scan_answer width step settings coefficients scan (length levels) (length magnitudes))
    (scanned (level_at settings step) width coefficients scan levels) levels

unfoldable pub magnitudes_after : ℕ → ℕ → Settings → List ℤ → List ℕ → List Float → List Float → List Float
magnitudes_after width step settings coefficients scan levels magnitudes =
    after (scan_answer width step settings coefficients scan (length levels) (length magnitudes))
    (scanned (magnitude_at settings step) width coefficients scan magnitudes) magnitudes
