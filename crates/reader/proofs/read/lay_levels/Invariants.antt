-- `reader::read::lay_levels` meets its contract. Assumes nothing.
use Rattle.std.proofs.Common.{◌≡◌, ◌+◌, ◌*◌}
use Rattle.laws.specs.Store.{laid}
use Rattle.format.specs.Format.{count_in, list_in, level_in}
use Rattle.reader.proofs.read.lay_levels.Given as goal

-- the places of the first j bytes of the map are laid
abbrev pub invariant-loop-j : goal.invariant-loop-j
invariant-loop-j l = record {
  laid : l.levels ≡ laid l.initial.levels 0 (8 * l.j) (level_in l.whole.bytes.now);
  next : l.at ≡ list_in l.whole.bytes.now + 4 * count_in l.whole.bytes.now (8 * l.j);
}
