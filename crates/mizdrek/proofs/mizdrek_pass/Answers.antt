-- `mizdrek::mizdrek_pass` meets its contract. Assumes nothing.
use Rattle.answer.proofs.Answer.{signed_asked}
use Rattle.passes.proofs.Accepted.{pass_small}
use Rattle.mizdrek.proofs.mizdrek_pass.Goals as goal

pub signed-requires : goal.signed-requires
signed-requires c = signed_asked c.pass.ensures.result_value (pass_small _ _ _ _ _ _)
