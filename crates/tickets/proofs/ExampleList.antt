-- What an opening and condition 3, as they are stated, say of a list of four. Assumes nothing.
use mathlib.Core.Path.{◌≡◌, refl, ap, ◌∙◌}
use Rattle.laws.specs.Store.{tab}
use Rattle.answer.specs.Answer.{Answer, answers, lowest}
use Rattle.sizes.specs.Size.{is_side}
use Rattle.kernels.specs.Kernel.{has_kernel}
use Rattle.fixed.specs.Limit.{is_within, all_within}
use Rattle.residual.specs.Residual.{residuals_ok}
use Rattle.block.specs.Call.{is_kind, has_kinds, refusals}
use Rattle.tickets.specs.Mark.{is_among}
use Rattle.tickets.specs.Batch.{out_of_range, ticket_after}
use Rattle.tickets.specs.Open.{open_answer, new_ticket}
use Rattle.tickets.specs.Run.{state_at, Run, run}
use Rattle.tickets.specs.Condition3.{covers, answer_to, covered, settled}
use Rattle.tickets.specs.Examples.{zeros, list, ListAnswers}
use Rattle.tickets.specs.declared.Ticket.{Ticket}

-- an opening that is accepted
pub opens : open_answer 8 4 0 0 (zeros 32) 32 32 ≡ answers 0
unfolding open_answer refusals lowest is_side has_kinds is_kind has_kernel residuals_ok all_within is_within
opens = refl

pub list_answers : ListAnswers
unfolding settled tab answer_to covered covers is_among out_of_range lowest
list_answers claim r o = (
  o.answer ∙ opens,
  ap (λ (t : Ticket). (run (zeros 32) (state_at t (zeros 32) (zeros 32)) list).answered)
      (o.ticket ∙ ap (λ (a : Answer). ticket_after a (new_ticket 8 4 0 0) (new_ticket 0 0 0 0)) opens)
      ∙ ap (λ (x : Run). x.answered) (claim 8 4 0 0 (zeros 32) (zeros 32) (zeros 32) opens list),
)
