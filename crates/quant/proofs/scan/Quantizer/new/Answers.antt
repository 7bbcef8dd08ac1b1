-- `quant::scan::Quantizer::new` meets its contract. Assumes nothing.
use mathlib.Core.Path.{sym, ◌∙◌}
use Rattle.sizes.proofs.Side.{side_bounds}
use Rattle.quant.proofs.scan.Quantizer.new.Goals as goal

pub invariant_of-result : goal.invariant_of-result
invariant_of-result c = record { narrow = (side_bounds c.args.width (sym c.is_side.ensures ∙ c.if-not-is_side.false)).high }
