-- What condition 3, as it is stated, says of one list of calls: a premise that no opening meets would leave it saying nothing.
use Rattle.std.specs.Prelude.{◌≡◌, true, false, List, [], ◌∷◌}
use Rattle.answer.specs.Answer.{answers, refuses}
use Rattle.tickets.specs.Batch.{batch_of}
use Rattle.tickets.specs.Examples.{zeros}
use Rattle.tickets.specs.Open.{new_ticket}
use Rattle.tickets.specs.Run.{state_at}
use Rattle.previews.specs.Calls.{Call, runs, looks, run}
use Rattle.previews.specs.Condition3.{Condition3}

-- on a block of 8 × 4: a preview of rows too early; of columns, into a short buffer, and accepted; the columns' batch; the rows once more,
-- shown and run; a preview of columns past the last
abbrev pub list : List Call
list =
    looks (batch_of true 0 4) (zeros 32) ∷
    looks (batch_of false 0 8) (zeros 31) ∷
    looks (batch_of false 0 8) (zeros 32) ∷
    runs (batch_of false 0 8) ∷
    looks (batch_of true 0 4) (zeros 32) ∷
    runs (batch_of true 0 4) ∷
    looks (batch_of false 8 1) (zeros 4) ∷ []

-- from the statement alone, whatever its proof
abbrev pub ListAnswers : Type 0
ListAnswers =
    Condition3
    → (run (zeros 32) (state_at (new_ticket 8 4 0 0) (zeros 32) (zeros 32)) list).answered
    ≡ refuses 6 ∷ refuses 3 ∷ answers 8 ∷ answers 8 ∷ answers 4 ∷ answers 4 ∷ refuses 5 ∷ []
