-- `fixed::rounding::Shift::rounding` meets its contract. Assumes nothing.
use Rattle.fixed.proofs.Shifted.{shift_small, half_read}
use Rattle.fixed.proofs.rounding.Shift.rounding.Goals as goal

pub invariant_of-result : goal.invariant_of-result
invariant_of-result c = record { built = half_read c.args.self.bits (shift_small c.args.self.bits c.args.self.in_range) }
