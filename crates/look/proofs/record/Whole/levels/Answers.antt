-- `look::record::Whole::levels` meets its contract. Assumes nothing.
use Rattle.look.proofs.Looked.{listed_room}
use Rattle.look.proofs.record.Whole.levels.Goals as goal

pub sum_levels-requires : goal.sum_levels-requires
sum_levels-requires c = let w = c.args.self.now in listed_room w.bytes.now c.places.ensures c.count.ensures w.whole
