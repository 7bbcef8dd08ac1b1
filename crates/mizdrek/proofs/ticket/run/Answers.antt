-- `mizdrek::ticket::run` meets its contract. Assumes nothing.
use Rattle.mizdrek.proofs.Batch.{told_small}
use Rattle.mizdrek.proofs.ticket.run.Goals as goal

pub signed-requires : goal.signed-requires
signed-requires c = told_small _ _ _ _ _ c.run.ensures
