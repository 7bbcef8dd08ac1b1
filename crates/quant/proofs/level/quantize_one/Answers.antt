-- `quant::level::quantize_one` meets its contract. Assumes nothing.
use mathlib.Core.Path.{sym, ap, ap₂, ◌∙◌}
use lib.Ieee.{le}
use mir.Syntax.{w32}
use mir.ValLaws.{to_z-of_z}
use Rattle.answer.specs.Answer.{lowest}
use Rattle.quant.specs.Place.{kept, dropped, place_of, one_answer}
use Rattle.quant.specs.Level.{magnitude_at, level_at}
use Rattle.quant.specs.Settings.{coefficient_ok}
use Rattle.quant.proofs.Written.{scaled_level, scaled_magnitude}
use Rattle.quant.proofs.level.quantize_one.Goals as goal

pub quantize-written-requires : goal.quantize-written-requires
quantize-written-requires c = sym c.coefficient_ok.ensures ∙ c.if-not-coefficient_ok.false

pub returns-then-written-settings : goal.returns-then-written-settings
unfolding one_answer lowest place_of
returns-then-written-settings c =
    let a = c.args in
    let s = c.in_ok-scale.scale in
    let e = c.in_ok-scale.ensures in
    let back = to_z-of_z w32 a.coefficient c.ranges.coefficient in
    let level = c.quantize-written.ensures.0 ∙ scaled_level a.settings a.step s.inverse s.threshold s.bias e.0 _ ∙ ap (level_at a.settings a.step) back in
    let magnitude = c.quantize-written.ensures.1 ∙ scaled_magnitude a.settings a.step s.inverse s.threshold s.bias e.0 _ ∙ ap (magnitude_at a.settings a.step) back in
    let fine = ap coefficient_ok (sym back) ∙ sym c.coefficient_ok.ensures ∙ c.if-not-coefficient_ok.false in
    rw (e.1, fine, ap (le a.settings.threshold) (sym magnitude) ∙ c.if-written-settings.true) (ap₂ kept level magnitude)

pub returns : goal.returns
unfolding one_answer lowest place_of
returns c =
    let a = c.args in
    let s = c.in_ok-scale.scale in
    let e = c.in_ok-scale.ensures in
    let back = to_z-of_z w32 a.coefficient c.ranges.coefficient in
    let magnitude = c.quantize-written.ensures.1 ∙ scaled_magnitude a.settings a.step s.inverse s.threshold s.bias e.0 _ ∙ ap (magnitude_at a.settings a.step) back in
    let fine = ap coefficient_ok (sym back) ∙ sym c.coefficient_ok.ensures ∙ c.if-not-coefficient_ok.false in
    rw (e.1, fine, ap (le a.settings.threshold) (sym magnitude) ∙ c.if-written-settings.false) (ap dropped magnitude)
