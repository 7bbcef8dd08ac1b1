-- What the functions of the C interface give back and leave of a lent ticket: a call's answer as one signed number, and what the call leaves.
use Rattle.std.specs.Prelude.{◌≡◌, List, ℕ, ℤ}
use Rattle.answer.specs.Answer.{signed_of}
use Rattle.tickets.specs.Batch.{Given, ticket_after}
use Rattle.tickets.specs.Open.{open_answer, new_ticket}
use Rattle.tickets.specs.declared.Ticket.{Ticket}

-- a batch: g is what the call gives back
abbrev pub SignedBatch : Given → ℤ → Ticket → List ℤ → Type 0
SignedBatch g number ticket buffer = (number ≡ signed_of g.answer) × (ticket ≡ g.ticket) × (buffer ≡ g.buffer)

-- an opening on the ticket given, with a scratch buffer of length ls and an output of length lo: "A refusal .. leaves the ticket as given"
abbrev pub SignedOpening : ℕ → ℕ → ℕ → ℕ → List ℤ → ℕ → ℕ → Ticket → ℤ → Ticket → Type 0
SignedOpening w h ck rk residuals ls lo given number ticket =
    (number ≡ signed_of (open_answer w h ck rk residuals ls lo))
    × (ticket ≡ ticket_after (open_answer w h ck rk residuals ls lo) (new_ticket w h ck rk) given)
