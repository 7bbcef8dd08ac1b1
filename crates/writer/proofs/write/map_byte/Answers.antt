-- `writer::write::map_byte` meets its contract. Assumes nothing.
use Rattle.std.proofs.Common.{arith}
use Rattle.format.proofs.Bits.{eight}
use Rattle.format.specs.Pieces.{stands}
use Rattle.writer.specs.Write.{level_at}
use Rattle.writer.proofs.write.map_byte.Goals as goal

pub returns : goal.returns
returns c =
    omega (
      arith,
      eight (λ i. stands (level_at c.args.levels.now i)),
      c.bit_of.ensures.0,
      c.bit_of-2.ensures.0,
      c.bit_of-3.ensures.0,
      c.bit_of-4.ensures.0,
      c.bit_of-5.ensures.0,
      c.bit_of-6.ensures.0,
      c.bit_of-7.ensures.0,
      c.bit_of-8.ensures.0,
    )
