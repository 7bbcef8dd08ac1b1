-- `mizdrek::levels::mizdrek_lighter` meets its contract. Assumes nothing.
use mathlib.Core.Path.{◌∙◌}
use borrow.Author.Rules.{rules}
use Rattle.answer.proofs.Answer.{signed_asked, signed_given}
use Rattle.choice.proofs.Accepted.{choice_small}
use Rattle.mizdrek.proofs.levels.mizdrek_lighter.Goals as goal

pub signed-requires : goal.signed-requires
signed-requires c = signed_asked c.which.ensures (choice_small _ _ _)

pub returns : goal.returns
returns c = search rules ∙ signed_given c.which.ensures c.signed.ensures
