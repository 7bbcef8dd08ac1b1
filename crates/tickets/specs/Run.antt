-- A list of batches, run: "the first call gets the opening's ticket and each later one the ticket the last gave back, all are lent
-- the block's own buffers".
use Rattle.std.specs.Prelude.{false, cond, List, ℕ, zero, suc, ℤ, length, get_or}
use Rattle.laws.specs.Store.{tab}
use Rattle.answer.specs.Answer.{Answer}
use Rattle.tickets.specs.Batch.{batch_of, Given, batch}
use Rattle.tickets.specs.declared.Batch.{Batch}
use Rattle.tickets.specs.declared.Ticket.{Ticket}

-- the ticket and the two work buffers
pub record State : Type 0 where
  pub ticket : Ticket
  pub scratch : List ℤ
  pub output : List ℤ

abbrev pub state_at : Ticket → List ℤ → List ℤ → State
state_at ticket scratch output = record { ticket = ticket; scratch = scratch; output = output }

pub record Step : Type 0 where
  pub answer : Answer
  pub state : State

-- "A column batch is lent residuals and scratch, a row batch scratch and output"
abbrev pub column_step : State → Given → Step
column_step s g = record { answer = g.answer; state = state_at g.ticket g.buffer s.output }

abbrev pub row_step : State → Given → Step
row_step s g = record { answer = g.answer; state = state_at g.ticket s.scratch g.buffer }

-- one batch of a block
unfoldable pub step : List ℤ → State → Batch → Step
step residuals s b =
    cond b.row (row_step s (batch s.ticket b s.scratch s.output)) (column_step s (batch s.ticket b residuals s.scratch))

-- batch i of a list
abbrev pub nth : List Batch → ℕ → Batch
nth bs i = get_or bs i (batch_of false 0 0)

-- what the first i batches of a list leave
unfoldable pub state_after : List ℤ → State → List Batch → ℕ → State
state_after residuals s bs zero = s
state_after residuals s bs (suc i) = (step residuals (state_after residuals s bs i) (nth bs i)).state

-- what each batch of a list gives back, and what the whole list leaves
pub record Run : Type 0 where
  pub answered : List Answer
  pub tickets : List Ticket
  pub state : State

unfoldable pub run : List ℤ → State → List Batch → Run
run residuals s bs =
    record {
      answered = tab (length bs) (λ i. (step residuals (state_after residuals s bs i) (nth bs i)).answer);
      tickets = tab (length bs) (λ i. (state_after residuals s bs (suc i)).ticket);
      state = state_after residuals s bs (length bs);
    }
