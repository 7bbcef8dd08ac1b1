-- `writer::admit::are_sides` meets its contract. Assumes nothing.
use Rattle.std.proofs.Common.{◌≡◌, get_or}
use Rattle.laws.specs.Table.{every}
use Rattle.sizes.specs.Size.{is_side}
use Rattle.writer.proofs.admit.are_sides.Given as goal

abbrev pub invariant-loop-side : goal.invariant-loop-side
invariant-loop-side l = l.ok ≡ every l.side-index (λ i. is_side (get_or l.sides i 0))
