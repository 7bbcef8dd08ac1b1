-- `probe::probe_lanes` meets its contract. Assumes nothing.
use Rattle.answer.proofs.Answer.{signed_asked}
use Rattle.probe.proofs.Lanes.{lanes_small}
use Rattle.probe.proofs.probe_lanes.Goals as goal

pub signed-requires : goal.signed-requires
signed-requires c = signed_asked c.run_lanes.ensures.result_value (lanes_small _ _ _ _ _ _ _ _)
