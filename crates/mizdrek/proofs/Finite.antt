-- What `mizdrek_quantize_one` leaves is finite, or as it was. Assumes nothing.
use mathlib.Core.Bool.{Bool, true, false, cond, false≢true, true≢false}
use mathlib.Core.Path.{refl}
use lib.Ieee.{Float}
use Rattle.quant.specs.Finite.{AllFinite}
use Rattle.quant.specs.Level.{level_at, magnitude_at}
use Rattle.quant.specs.Place.{Said, refused, dropped, kept, is_kept, place_of, one_answer}
use Rattle.quant.specs.Settings.{settings_ok, coefficient_ok}
use Rattle.quant.proofs.Finite.{one_finite}
use Rattle.mizdrek.specs.Finite.{Left, LeftFinite}

-- by the three tests of a place with a level l and a magnitude m
abbrev answered : Bool → Bool → Bool → Float → Float → Said
answered a b t l m = cond a (cond b (cond t (kept l m) (dropped m)) (refused 9)) (refused 7)

left : (a b t : Bool) (l m level magnitude : Float) → AllFinite (answered a b t l m) → Left (answered a b t l m) level magnitude
left false b t l m level magnitude f = record { accepted = λ e. absurd (false≢true e); refused = λ e. (refl, refl) }
left true false t l m level magnitude f = record { accepted = λ e. absurd (false≢true e); refused = λ e. (refl, refl) }
left true true true l m level magnitude f = record { accepted = λ e. f; refused = λ e. absurd (true≢false e) }
left true true false l m level magnitude f = record { accepted = λ e. (tt, f); refused = λ e. absurd (true≢false e) }

pub left_finite : LeftFinite
unfolding one_answer place_of
left_finite s step c level magnitude =
    left (settings_ok s step) (coefficient_ok c) (is_kept s step c) (level_at s step c) (magnitude_at s step c) level magnitude (one_finite s step c)
