-- A batch on a lent ticket: its answer is a small one, so that it can be given back as one signed number. Assumes nothing.
use mathlib.Core.Path.{ap}
use mathlib.Core.Bool.{false}
use mathlib.Core.List.{List}
use lib.Dec.{T}
use lib.IntN.{ℤ}
use lib.ListN.{length}
use Rattle.answer.specs.Answer.{Outcome, told, is_small}
use Rattle.answer.proofs.Answer.{signed_asked}
use Rattle.tickets.specs.Batch.{Given, batch}
use Rattle.tickets.specs.declared.Batch.{Batch}
use Rattle.tickets.specs.declared.Ticket.{Ticket}
use Rattle.tickets.proofs.Played.{answer_small}
use Rattle.dispatch.specs.Lent.{LentBatch}

pub batch_small : (t : Ticket) (b : Batch) (source target : List ℤ) → T (is_small (batch t b source target).answer)
unfolding batch
batch_small t b source target = answer_small false t b (length source) (length target)

-- and so is that of the call that meets it
pub told_small : (t : Ticket) (b : Batch) (source target : List ℤ) (r : Outcome) {u : Ticket} {d : List ℤ}
    → LentBatch t b source target r u d → T (is_small (told r))
told_small t b source target r e = signed_asked (ap (λ (g : Given). g.answer) e) (batch_small t b source target)
