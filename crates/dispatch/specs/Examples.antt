-- What condition 3 of a lent ticket, as it is stated, says of one list of calls: a premise that no opening meets would leave it saying nothing.
use Rattle.std.specs.Prelude.{◌≡◌, List, [], ◌∷◌, ℕ, ℤ}
use Rattle.laws.specs.Store.{tab}
use Rattle.answer.specs.Answer.{Outcome, answers, refuses, told}
use Rattle.tickets.specs.Open.{new_ticket}
use Rattle.tickets.specs.Run.{State, state_at}
use Rattle.tickets.specs.Examples.{zeros}
use Rattle.previews.specs.Examples.{list}
use Rattle.dispatch.specs.Calls.{Calls, LentCondition3}

-- from the statement alone, whatever its proof: the outcomes of the seven calls, on a block of 8 × 4
abbrev pub ListOutcomes : Type 0
ListOutcomes =
    LentCondition3
    → (at : ℕ → State) (o : ℕ → Outcome) (shown : ℕ → List ℤ) → Calls (zeros 32) (state_at (new_ticket 8 4 0 0) (zeros 32) (zeros 32)) list at o shown
    → tab 7 (λ i. told (o i)) ≡ refuses 6 ∷ refuses 3 ∷ answers 8 ∷ answers 8 ∷ answers 4 ∷ answers 4 ∷ refuses 5 ∷ []
