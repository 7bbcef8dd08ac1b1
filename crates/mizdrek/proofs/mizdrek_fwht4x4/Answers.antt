-- `mizdrek::mizdrek_fwht4x4` meets its contract. Assumes nothing.
use lib.Dec.{lit<}
use Rattle.answer.proofs.Answer.{lowest_small, signed_asked}
use Rattle.wht.specs.Wht.{wht_answer}
use Rattle.mizdrek.proofs.mizdrek_fwht4x4.Goals as goal

pub signed-requires : goal.signed-requires
unfolding wht_answer
signed-requires c = signed_asked c.fwht4x4.ensures.result_value (lowest_small _ 16 (lit< tt))
