-- `tiles::open_tile` meets its contract. Assumes nothing.
use Rattle.plane.proofs.Small.{opening_small}
use Rattle.tiles.proofs.Signed.{planned_small}
use Rattle.tiles.proofs.open_tile.Goals as goal

pub new-requires : goal.new-requires
new-requires c = planned_small c.open_tile.result c.open_tile.ensures (opening_small _ _ _ _ _)
