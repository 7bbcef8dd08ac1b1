-- Condition 3 of a lent ticket at a list of calls, from its statement. Assumes nothing.
use mathlib.Core.Path.{ap}
use Rattle.laws.specs.Store.{tab}
use Rattle.answer.specs.Answer.{lowest}
use Rattle.tickets.specs.Mark.{is_among}
use Rattle.tickets.specs.Batch.{out_of_range}
use Rattle.tickets.specs.Condition3.{covers, answer_to}
use Rattle.tickets.proofs.ExampleList.{opens}
use Rattle.previews.specs.Preview.{is_short}
use Rattle.previews.specs.Calls.{Run}
use Rattle.previews.specs.Condition3.{covered, settled}
use Rattle.tickets.specs.Examples.{zeros}
use Rattle.previews.specs.Examples.{list}
use Rattle.dispatch.specs.Calls.{ran}
use Rattle.dispatch.specs.Examples.{ListOutcomes}

pub list_outcomes : ListOutcomes
unfolding ran settled tab answer_to covered covers is_among out_of_range is_short lowest
list_outcomes claim at o shown c = ap (λ (r : Run). r.answered) (claim 8 4 0 0 (zeros 32) (zeros 32) (zeros 32) opens list at o shown c)
