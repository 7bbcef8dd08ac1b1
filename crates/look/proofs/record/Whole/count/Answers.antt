-- `look::record::Whole::count` meets its contract. Assumes nothing.
use Rattle.look.proofs.Looked.{map_room}
use Rattle.look.proofs.record.Whole.count.Goals as goal

pub count_in-requires : goal.count_in-requires
count_in-requires c = let w = c.args.self.now in map_room w.bytes.now c.places.ensures w.whole
