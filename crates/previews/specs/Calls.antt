-- A list of calls on one block, run: batches, and previews between them.
use Rattle.std.specs.Prelude.{false, cond, List, [], ℕ, zero, suc, ℤ, length, get_or}
use Rattle.laws.specs.Store.{tab}
use Rattle.answer.specs.Answer.{Answer}
use Rattle.tickets.specs.Batch.{batch_of}
use Rattle.tickets.specs.declared.Batch.{Batch}
use Rattle.tickets.specs.Run.{State, Step, step}
use Rattle.tickets.specs.declared.Ticket.{Ticket}
use Rattle.previews.specs.Preview.{Preview, preview_of}

-- a batch, or a preview of one into a buffer that is lent for it
pub data Call : Type 0 where
  runs : Batch → Call
  looks : Batch → List ℤ → Call

-- what a call gives back, its preview buffer afterwards (a batch has none), and the state that it leaves
pub record Turn : Type 0 where
  pub answer : Answer
  pub shown : List ℤ
  pub state : State

abbrev pub batch_turn : Step → Turn
batch_turn r = record { answer = r.answer; shown = []; state = r.state }

-- "It leaves ticket, scratch and output alone."
abbrev pub preview_turn : State → Preview → Turn
preview_turn s v = record { answer = v.answer; shown = v.shown; state = s }

-- "It is lent what the batch is lent besides"
unfoldable pub preview_at : List ℤ → State → Batch → List ℤ → Preview
preview_at residuals s b room =
    cond b.row (preview_of s.ticket b s.scratch s.output room) (preview_of s.ticket b residuals s.scratch room)

abbrev pub turn : List ℤ → State → Call → Turn
turn residuals s (runs b) = batch_turn (step residuals s b)
turn residuals s (looks b room) = preview_turn s (preview_at residuals s b room)

-- call i of a list
abbrev pub nth : List Call → ℕ → Call
nth cs i = get_or cs i (runs (batch_of false 0 0))

-- what the first i calls of a list leave
unfoldable pub state_after : List ℤ → State → List Call → ℕ → State
state_after residuals s cs zero = s
state_after residuals s cs (suc i) = (turn residuals (state_after residuals s cs i) (nth cs i)).state

-- what each call of a list gives back and shows, the ticket after it, and what the whole list leaves
pub record Run : Type 0 where
  pub answered : List Answer
  pub shown : List (List ℤ)
  pub tickets : List Ticket
  pub state : State

unfoldable pub run : List ℤ → State → List Call → Run
run residuals s cs =
    record {
      answered = tab (length cs) (λ i. (turn residuals (state_after residuals s cs i) (nth cs i)).answer);
      shown = tab (length cs) (λ i. (turn residuals (state_after residuals s cs i) (nth cs i)).shown);
      tickets = tab (length cs) (λ i. (state_after residuals s cs (suc i)).ticket);
      state = state_after residuals s cs (length cs);
    }
