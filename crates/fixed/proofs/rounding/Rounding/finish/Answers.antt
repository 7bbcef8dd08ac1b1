-- `fixed::rounding::Rounding::finish` meets its contract. Assumes nothing.
use mir.Syntax.{w32}
use Rattle.fixed.proofs.Shifted.{shr_read}
use Rattle.fixed.proofs.rounding.Rounding.finish.Goals as goal

pub returns : goal.returns
returns c = shr_read w32 c.args.sum c.args.self.shift.bits c.ranges.sum.sfits
