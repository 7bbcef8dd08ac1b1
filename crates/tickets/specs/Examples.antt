-- What an opening and condition 3, as they are stated, say of one list of batches: a premise that no opening meets would leave them saying nothing.
use Rattle.std.specs.Prelude.{◌≡◌, true, false, List, [], ◌∷◌, ℕ, ℤ, pos, replicate}
use Rattle.answer.specs.Answer.{answers, refuses, told}
use Rattle.tickets.specs.Batch.{batch_of}
use Rattle.tickets.specs.declared.Batch.{Batch}
use Rattle.tickets.specs.Open.{Opening}
use Rattle.tickets.specs.Run.{state_at, run}
use Rattle.tickets.specs.Condition3.{Condition3}
use Rattle.tickets.specs.declared.Batched.{Batched}

abbrev pub zeros : ℕ → List ℤ
zeros n = replicate n (pos 0)

-- on a block of 8 × 4: a row batch before the columns, a bad range, the columns, and the row batch again
abbrev pub list : List Batch
list = batch_of true 0 4 ∷ batch_of false 2 4 ∷ batch_of false 0 8 ∷ batch_of true 0 4 ∷ []

-- from the statements alone, whatever their proofs: the list runs from the ticket that the opening gives back
abbrev pub ListAnswers : Type 0
ListAnswers =
    Condition3 → (r : Batched) → Opening 8 4 0 0 (zeros 32) 32 32 r
    → (told r.outcome ≡ answers 0)
    × ((run (zeros 32) (state_at r.ticket (zeros 32) (zeros 32)) list).answered ≡ refuses 6 ∷ refuses 5 ∷ answers 8 ∷ answers 4 ∷ [])
