-- `tiles::columns` meets its contract. Assumes nothing.
use Rattle.plane.proofs.Small.{columns_small}
use Rattle.tiles.proofs.Signed.{kept_small}
use Rattle.tiles.proofs.columns.Goals as goal

pub new-requires : goal.new-requires
new-requires c = kept_small c.tile_columns-done.result c.tile_columns-done.ensures (columns_small _ _ _ _ _ _)
