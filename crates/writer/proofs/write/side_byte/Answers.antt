-- `writer::write::side_byte` meets its contract. Assumes nothing.
use Rattle.std.proofs.Common.{ℕ, ◌+◌, ◌-◌, ◌*◌, ap₂}
use Rattle.format.specs.Pieces.{side_byte}
use Rattle.writer.proofs.write.side_byte.Goals as goal

pub returns : goal.returns
unfolding side_byte
returns c = ap₂ (λ (x y : ℕ). x - 2 + 4 * (y - 2)) c.log2.ensures.value c.log2-2.ensures.value
