-- `mizdrek::mizdrek_dc_tx_scale` meets its contract. Assumes nothing.
use mathlib.Core.Path.{◌∙◌}
use borrow.Author.Rules.{rules}
use Rattle.answer.proofs.Answer.{signed_asked, signed_given}
use Rattle.sizes.proofs.Answer.{scale_small}
use Rattle.mizdrek.proofs.mizdrek_dc_tx_scale.Goals as goal

pub signed-requires : goal.signed-requires
signed-requires c = signed_asked c.dc_tx_scale.ensures (scale_small c.args.w c.args.h)

pub returns : goal.returns
returns c = search rules ∙ signed_given c.dc_tx_scale.ensures c.signed.ensures
