-- `writer::admit::listed_length` meets its contract. Assumes nothing.
use Rattle.std.proofs.Common.{◌≡◌}
use Rattle.format.specs.Pieces.{standing, stands}
use Rattle.writer.specs.Write.{level_at}
use Rattle.writer.proofs.admit.listed_length.Given as goal

abbrev pub invariant-loop-level : goal.invariant-loop-level
invariant-loop-level l = l.count ≡ standing (λ p. stands (level_at l.levels p)) l.level-index
