-- A list of batches lent as numbers, and played.
use Rattle.std.specs.Prelude.{◌≡◌, Bool, not, ◌||◌, List, [], ◌∷◌, ◌++◌, map, ℕ, eqb, leb, ltb, ℤ, length, get_or, drop}
use Rattle.laws.specs.Store.{tab}
use Rattle.laws.specs.Table.{every}
use Rattle.answer.specs.Answer.{Answer, answers, refuses, lowest, after, signed_of, told}
use Rattle.tickets.specs.Batch.{batch_of}
use Rattle.tickets.specs.declared.Batch.{Batch}
use Rattle.tickets.specs.Run.{State, state_at, Step, Run, run}
use Rattle.tickets.specs.Open.{open_answer, new_ticket}
use Rattle.tickets.specs.Condition3.{settled}
use Rattle.tickets.specs.declared.Batched.{Batched}
use Rattle.tickets.specs.declared.Ticket.{Ticket}

-- batch i of a lent list: a column batch where kinds has 0, a row batch where it has 1
unfoldable pub batches_of : List ℕ → List ℕ → List ℕ → List Batch
batches_of kinds starts counts = tab (length kinds) (λ i. batch_of (eqb (get_or kinds i 0) 1) (get_or starts i 0) (get_or counts i 0))

unfoldable pub are_kinds : List ℕ → Bool
are_kinds kinds = every (length kinds) (λ i. leb (get_or kinds i 0) 1)

-- number 2 where a kind of batch isn't 0 or 1; number 3 where another lent list is shorter than kinds. Played, a list answers how many
-- batches it has
unfoldable pub play_answer : List ℕ → ℕ → ℕ → ℕ → Answer
play_answer kinds starts counts room =
    lowest
    ((not (are_kinds kinds), 2) ∷
    (ltb starts (length kinds) || (ltb counts (length kinds) || ltb room (length kinds)), 3) ∷ [])
    (length kinds)

-- what a played list gives back, and what it leaves: the ticket, the work buffers and the lent answers
pub record Played : Type 0 where
  pub answer : Answer
  pub state : State
  pub answered : List ℤ

-- what a call with this answer leaves of a state
abbrev pub state_unless : Answer → State → State → State
state_unless (answers n) new old = new
state_unless (refuses k) new old = old

-- r is what the batches of the list give back and leave: each answer is written as one signed number
unfoldable pub played_as : Run → Answer → State → List ℤ → Played
played_as r a s room =
    record {
      answer = a;
      state = state_unless a r.state s;
      answered = after a (map signed_of r.answered ++ drop (length r.answered) room) room;
    }

unfoldable pub played : List ℤ → State → List ℕ → List ℕ → List ℕ → List ℤ → Played
played residuals s kinds starts counts room =
    played_as (run residuals s (batches_of kinds starts counts)) (play_answer kinds (length starts) (length counts) (length room)) s room

-- what a call gave back and left: of one batch, which no public contract mentions, and of a list
abbrev pub step_given : Batched → List ℤ → List ℤ → Step
step_given r scratch output = record { answer = told r.outcome; state = state_at r.ticket scratch output }

abbrev pub play_given : Batched → List ℤ → List ℤ → List ℤ → Played
play_given r scratch output answered = record { answer = told r.outcome; state = state_at r.ticket scratch output; answered = answered }

-- condition 3 at a played list: from an accepted opening, what the list gives back and leaves is what it settles
abbrev pub AsSettled : Ticket → List ℤ → List ℤ → List ℤ → List ℕ → List ℕ → List ℕ → List ℤ → Played → Type 0
AsSettled t residuals scratch output kinds starts counts room given =
    open_answer t.w t.h t.column_kind t.row_kind residuals (length scratch) (length output) ≡ answers 0
    → t ≡ new_ticket t.w t.h t.column_kind t.row_kind
    → given
    ≡ played_as (settled t.w t.h t.column_kind t.row_kind residuals scratch output (batches_of kinds starts counts))
    (play_answer kinds (length starts) (length counts) (length room)) (state_at t scratch output) room
