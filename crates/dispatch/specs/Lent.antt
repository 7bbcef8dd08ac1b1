-- "the dispatcher keeps one job ticket and lends it to be marked where it stands": a batch on a lent ticket.
use Rattle.std.specs.Prelude.{◌≡◌, List, ℤ}
use Rattle.answer.specs.Answer.{Outcome, told}
use Rattle.tickets.specs.Batch.{batch}
use Rattle.tickets.specs.declared.Batch.{Batch}
use Rattle.tickets.specs.declared.Ticket.{Ticket}

-- batch b, lent the ticket t, the buffer source to read and the buffer target to write: it gives back o and leaves the ticket t' and the
-- buffer target', as the batch by value does
abbrev pub LentBatch : Ticket → Batch → List ℤ → List ℤ → Outcome → Ticket → List ℤ → Type 0
LentBatch t b source target o t' target' = record { answer = told o; ticket = t'; buffer = target' } ≡ batch t b source target
