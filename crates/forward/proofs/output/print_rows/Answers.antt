-- `forward::output::print_rows` is safe: a row has some numbers. Assumes nothing.
use Rattle.forward.proofs.Sized.{side_some}
use Rattle.forward.proofs.output.print_rows.Goals as goal

pub chunks_exact-row-items-requires : goal.chunks_exact-row-items-requires
chunks_exact-row-items-requires g c = side_some _ c.args.size.sides.0

pub loop-row-init : goal.loop-row-init
loop-row-init g c =
    let h = side_some _ c.args.size.sides.0 in
    (rw (c.into_iter-row-iterator.ensures.into_iter_gives, c.chunks_exact-row-items.ensures.size) h, tt)
