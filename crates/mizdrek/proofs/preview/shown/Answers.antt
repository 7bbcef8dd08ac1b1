-- `mizdrek::preview::shown` meets its contract. Assumes nothing.
use Rattle.mizdrek.proofs.Signed.{shown_small}
use Rattle.mizdrek.proofs.preview.shown.Goals as goal

pub signed-requires : goal.signed-requires
signed-requires c = shown_small _ _ _ _ _ c.preview.result c.preview.ensures
