-- `quant::level::settings_ok` meets its contract. Assumes nothing.
use mathlib.Core.Path.{refl}
use lib.Ieee.{of_bits}
use Rattle.quant.specs.Settings.{settings_ok}
use Rattle.quant.proofs.level.settings_ok.Goals as goal

pub returns : goal.returns
unfolding of_bits settings_ok
returns c = refl
