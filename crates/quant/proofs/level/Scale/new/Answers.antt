-- `quant::level::Scale::new` meets its contract. Assumes nothing.
use mathlib.Core.Path.{refl, sym, ◌∙◌}
use lib.IntN.{pos}
use lib.Ieee.{of_bits}
use Rattle.quant.proofs.Bounded.{inverse_finite}
use Rattle.quant.proofs.Ranges.{in_range, in_float_lem}
use Rattle.quant.proofs.level.Scale.new.Goals as goal

pub int_to_float-result : goal.int_to_float-result
int_to_float-result c = let a = c.args in in_float_lem (pos a.step) (in_range a.settings a.step (sym c.settings_ok.ensures ∙ c.if-not-settings_ok.false)).step_high

pub invariant_of-result : goal.invariant_of-result
invariant_of-result c = record { inverse_finite = inverse_finite c.args.settings c.args.step (sym c.settings_ok.ensures ∙ c.if-not-settings_ok.false) }

pub returns : goal.returns
unfolding of_bits
returns c = ((refl, refl, refl), sym c.settings_ok.ensures ∙ c.if-not-settings_ok.false)
