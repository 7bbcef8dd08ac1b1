-- `forward::scan::turned` meets its contract. Assumes nothing.
use Rattle.std.proofs.Common.{arith}
use Rattle.forward.proofs.Sized.{turned_lt}
use Rattle.forward.proofs.scan.turned.Goals as goal

pub overflow_mul-result : goal.overflow_mul-result
overflow_mul-result c = let h = turned_lt c.args.i c.args.size.w c.args.size.h c.args.size.sides c.requires in omega arith

pub overflow_add-result : goal.overflow_add-result
overflow_add-result c = let h = turned_lt c.args.i c.args.size.w c.args.size.h c.args.size.sides c.requires in omega arith

pub returns : goal.returns
returns c = (turned_lt c.args.i c.args.size.w c.args.size.h c.args.size.sides c.requires).0
