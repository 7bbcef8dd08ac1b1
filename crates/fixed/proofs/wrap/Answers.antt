-- `fixed::wrap` meets its contract: a shift left by 32 and back is the reduction to 32 bits. Assumes nothing.
use Rattle.laws.proofs.Machine.{shl_shr_32, wrapped_fits, wrapped_read}
use Rattle.fixed.proofs.wrap.Goals as goal

pub overflow_cast-result : goal.overflow_cast-result
overflow_cast-result c = wrapped_fits _ c.args.x (shl_shr_32 c.args.x c.ranges.x)

pub returns : goal.returns
returns c = wrapped_read _ c.args.x (shl_shr_32 c.args.x c.ranges.x)
