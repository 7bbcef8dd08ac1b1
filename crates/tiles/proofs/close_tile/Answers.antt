-- `tiles::close_tile` meets its contract. Assumes nothing.
use Rattle.plane.proofs.Small.{closing_small}
use Rattle.tiles.proofs.Signed.{planned_small}
use Rattle.tiles.proofs.close_tile.Goals as goal

pub new-requires : goal.new-requires
new-requires c = planned_small c.close_tile.result c.close_tile.ensures (closing_small _ _ _)
