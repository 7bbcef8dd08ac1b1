-- `mizdrek::mizdrek_block` meets its contract. Assumes nothing.
use Rattle.answer.proofs.Answer.{signed_asked}
use Rattle.block.proofs.Accepted.{block_small}
use Rattle.mizdrek.proofs.mizdrek_block.Goals as goal

pub signed-requires : goal.signed-requires
signed-requires c = signed_asked c.block.ensures.result_value (block_small _ _ _ _ _ _ _)
