-- `quant::float::max0` meets its contract. Assumes nothing.
use lib.Ieee.{of_bits}
use Rattle.quant.specs.Float.{max0_of}
use Rattle.quant.proofs.float.max0.Goals as goal

pub returns-then-x : goal.returns-then-x
unfolding max0_of of_bits
returns-then-x c = rw c.if-x.true

pub returns-else-x : goal.returns-else-x
unfolding max0_of of_bits
returns-else-x c = rw c.if-x.false
