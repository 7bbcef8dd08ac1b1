-- `writer::admit::fits` meets its contract. Assumes nothing.
use Rattle.std.proofs.Common.{◌≡◌, ◌≤◌, length}
use Rattle.writer.specs.Write.{place_at, length_to}
use Rattle.writer.proofs.admit.fits.Given as goal

abbrev pub invariant-loop-k : goal.invariant-loop-k
invariant-loop-k l = record {
  place : l.place ≡ place_at l.sides l.k;
  bytes : l.bytes ≡ length_to l.sides l.levels l.k;
  levels_there : l.place ≤ length l.levels;
  bytes_fit : l.bytes ≤ l.room;
}
