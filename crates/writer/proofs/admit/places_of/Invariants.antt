-- `writer::admit::places_of` meets its contract. Assumes nothing.
use Rattle.std.proofs.Common.{◌≡◌}
use Rattle.writer.specs.Write.{place_at}
use Rattle.writer.proofs.admit.places_of.Given as goal

abbrev pub invariant-loop-k : goal.invariant-loop-k
invariant-loop-k l = l.place ≡ place_at l.sides l.k
