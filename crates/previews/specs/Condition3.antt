-- "Condition 3 holds with previews between batches": what every list of calls from an accepted opening gives back, shows and leaves, settled
-- from the list and the opening alone. The list of batches alone is a special case: `BatchesAlone`.
use Rattle.std.specs.Prelude.{◌≡◌, Bool, false, cond, List, [], map, ℕ, zero, suc, ◌+◌, ◌*◌, ◌/◌, ◌%◌, ℤ, length}
use Rattle.laws.specs.Store.{tab, laid}
use Rattle.answer.specs.Answer.{Answer, answers, refuses, after}
use Rattle.tickets.specs.Batch.{line_length}
use Rattle.tickets.specs.declared.Batch.{Batch}
use Rattle.tickets.specs.Open.{open_answer, new_ticket}
use Rattle.tickets.specs.Run as batches
use Rattle.tickets.specs.Run.{State, state_at}
use Rattle.tickets.specs.Condition3 as alone
use Rattle.tickets.specs.Condition3.{answer_to, covered_with, ticket_of, number_at, state_of}
use Rattle.tickets.specs.ByPlace.{ByPlace}
use Rattle.previews.specs.Preview.{is_short}
use Rattle.previews.specs.Calls.{Call, runs, looks, Run, nth, run}

-- the lines that accepted batches cover once one call more has come: a preview covers none
abbrev pub covered_next : ℕ → ℕ → (Bool → ℕ → Bool) → Call → Bool → ℕ → Bool
covered_next w h done (runs b) = covered_with w h done b
covered_next w h done (looks b room) = done

-- an accepted batch among the first i calls of the list covers line j
unfoldable pub covered : ℕ → ℕ → List Call → ℕ → Bool → ℕ → Bool
covered w h cs zero row j = false
covered w h cs (suc i) row j = covered_next w h (covered w h cs i) (nth cs i) row j

-- the answer to a preview into a buffer of length room: number 3 by the buffer, else the batch's. done j: an accepted batch before it covers
-- column line j
abbrev pub answer_to_preview : ℕ → ℕ → (ℕ → Bool) → Batch → ℕ → Answer
answer_to_preview w h done b room =
    cond (is_short b.count (line_length w h b.row) room) (refuses 3) (answer_to w h done b)

abbrev pub answer_to_call : ℕ → ℕ → (ℕ → Bool) → Call → Answer
answer_to_call w h done (runs b) = answer_to w h done b
answer_to_call w h done (looks b room) = answer_to_preview w h done b (length room)

-- condition 2's numbers of a batch's lines, in front of the buffer room
abbrev pub with_lines_of : ℕ → ℕ → ℕ → ℕ → List ℤ → Batch → List ℤ → List ℤ
with_lines_of w h ck rk residuals b room =
    let n = line_length w h b.row in
    laid room 0 (b.count * n) (λ p. number_at w h ck rk residuals b.row (b.start + p / n) (p % n))

abbrev pub shown_by : ℕ → ℕ → ℕ → ℕ → List ℤ → (ℕ → Bool) → Call → List ℤ
shown_by w h ck rk residuals done (runs b) = []
shown_by w h ck rk residuals done (looks b room) =
    after (answer_to_preview w h done b (length room)) (with_lines_of w h ck rk residuals b room) room

-- what each call of a list gives back and shows, and what the list leaves
unfoldable pub settled : ℕ → ℕ → ℕ → ℕ → List ℤ → List ℤ → List ℤ → List Call → Run
settled w h ck rk residuals scratch output cs =
    record {
      answered = tab (length cs) (λ i. answer_to_call w h (covered w h cs i false) (nth cs i));
      shown = tab (length cs) (λ i. shown_by w h ck rk residuals (covered w h cs i false) (nth cs i));
      tickets = tab (length cs) (λ i. ticket_of w h ck rk (covered w h cs (suc i)));
      state = state_of w h ck rk residuals scratch output (covered w h cs (length cs));
    }

-- for every list of calls on one block, run from its accepted opening
abbrev pub Condition3 : Type 0
Condition3 =
    (w h ck rk : ℕ) (residuals scratch output : List ℤ) → open_answer w h ck rk residuals (length scratch) (length output) ≡ answers 0 → (cs : List Call)
    → run residuals (state_at (new_ticket w h ck rk) scratch output) cs ≡ settled w h ck rk residuals scratch output cs

-- and the state after it, place by place
abbrev pub PlaceByPlace : Type 0
PlaceByPlace =
    (w h ck rk : ℕ) (residuals scratch output : List ℤ) → open_answer w h ck rk residuals (length scratch) (length output) ≡ answers 0
    → (cs : List Call)
    → ByPlace w h ck rk residuals scratch output (covered w h cs (length cs)) (run residuals (state_at (new_ticket w h ck rk) scratch output) cs).state

-- a run of batches, in which nothing is shown
abbrev pub showing_nothing : batches.Run → Run
showing_nothing r =
    record { answered = r.answered; shown = tab (length r.answered) (λ i. []); tickets = r.tickets; state = r.state }

-- every list of batches alone is run, and settled, as document 01's condition 3 has it
abbrev pub BatchesAlone : Type 0
BatchesAlone =
    (w h ck rk : ℕ) (residuals scratch output : List ℤ) (s : State) (bs : List Batch)
    → (run residuals s (map runs bs) ≡ showing_nothing (batches.run residuals s bs))
    × (settled w h ck rk residuals scratch output (map runs bs) ≡ showing_nothing (alone.settled w h ck rk residuals scratch output bs))
