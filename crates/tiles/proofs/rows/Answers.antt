-- `tiles::rows` meets its contract. Assumes nothing.
use Rattle.plane.proofs.Small.{rows_small}
use Rattle.tiles.proofs.Signed.{kept_small}
use Rattle.tiles.proofs.rows.Goals as goal

pub new-requires : goal.new-requires
new-requires c = kept_small c.tile_rows-done.result c.tile_rows-done.ensures (rows_small _ _ _ _ _ _)
