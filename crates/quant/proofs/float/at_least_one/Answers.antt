-- `quant::float::at_least_one` meets its contract. Assumes nothing.
use lib.Ieee.{of_bits}
use Rattle.quant.proofs.float.at_least_one.Goals as goal

pub returns-then-x : goal.returns-then-x
unfolding of_bits
returns-then-x c = rw c.if-x.true

pub returns-else-x : goal.returns-else-x
unfolding of_bits
returns-else-x c = rw c.if-x.false
