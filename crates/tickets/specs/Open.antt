-- Opening: "Opening looks at the residuals, the scratch and the output, answers a ticket with no marks and writes nothing."
use Rattle.std.specs.Prelude.{◌≡◌, List, ℕ, ℤ}
use Rattle.answer.specs.Answer.{Answer, lowest, told}
use Rattle.block.specs.Call.{refusals}
use Rattle.tickets.specs.Batch.{ticket_after}
use Rattle.tickets.specs.declared.Batched.{Batched}
use Rattle.tickets.specs.declared.Ticket.{Ticket}

-- "blocks and openings 1 to 4": ls and lo are the lengths of scratch and output
unfoldable pub open_answer : ℕ → ℕ → ℕ → ℕ → List ℤ → ℕ → ℕ → Answer
open_answer w h ck rk residuals ls lo = lowest (refusals w h ck rk residuals ls lo) 0

-- "a ticket with no marks"
abbrev pub new_ticket : ℕ → ℕ → ℕ → ℕ → Ticket
new_ticket w h ck rk = record { w = w; h = h; column_kind = ck; row_kind = rk; columns = 0; rows = 0 }

-- what an opening gives back; refused, it is a ticket of zeros, which every batch refuses
pub record Opening (w h ck rk : ℕ) (residuals : List ℤ) (ls lo : ℕ) (r : Batched) : Type 0 where
  pub answer : told r.outcome ≡ open_answer w h ck rk residuals ls lo
  pub ticket : r.ticket ≡ ticket_after (open_answer w h ck rk residuals ls lo) (new_ticket w h ck rk) (new_ticket 0 0 0 0)
