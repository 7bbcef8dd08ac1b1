-- A list of calls on one lent ticket, batches by `run` and previews between them, and condition 3 of it.
use Rattle.std.specs.Prelude.{◌≡◌, Bool, true, false, List, [], ℕ, suc, ◌<◌, ℤ, length}
use Rattle.laws.specs.Store.{tab}
use Rattle.answer.specs.Answer.{Outcome, answers, told}
use Rattle.tickets.specs.Batch.{batch_of}
use Rattle.tickets.specs.Open.{open_answer, new_ticket}
use Rattle.tickets.specs.Run.{State, state_at}
use Rattle.previews.specs.Preview.{shows}
use Rattle.previews.specs.Calls.{Call, runs, looks, preview_at, Run, nth}
use Rattle.previews.specs.Condition3.{settled}
use Rattle.dispatch.specs.Lent.{LentBatch}

-- a batch of rows (true) or of columns, by the contract of `run`: it finds s, gives back o and leaves t. Of the two work buffers it writes one,
-- the output for rows and the scratch buffer for columns
abbrev pub BatchCalled : List ℤ → State → Bool → ℕ → ℕ → Outcome → State → Type 0
BatchCalled residuals s true start count o t =
    LentBatch s.ticket (batch_of true start count) s.scratch s.output o t.ticket t.output × (t.scratch ≡ s.scratch)
BatchCalled residuals s false start count o t =
    LentBatch s.ticket (batch_of false start count) residuals s.scratch o t.ticket t.scratch × (t.output ≡ s.output)

-- one call: its preview buffer is shown afterwards (a batch has none). A preview is lent the ticket and both buffers to be read
abbrev pub Called : List ℤ → State → Call → Outcome → List ℤ → State → Type 0
Called residuals s (runs b) o shown t = BatchCalled residuals s b.row b.start b.count o t × (shown ≡ [])
Called residuals s (looks b room) o shown t = (shows o shown ≡ preview_at residuals s b room) × (t ≡ s)

-- the calls of a list: call i finds the state `at i`, gives back `o i` and shows `shown i`
pub record Calls (residuals : List ℤ) (s : State) (cs : List Call) (at : ℕ → State) (o : ℕ → Outcome) (shown : ℕ → List ℤ) : Type 0 where
  pub first : at 0 ≡ s
  pub next : (i : ℕ) → i < length cs → Called residuals (at i) (nth cs i) (o i) (shown i) (at (suc i))

-- what n calls gave back and showed, and what they left
unfoldable pub ran : ℕ → (ℕ → State) → (ℕ → Outcome) → (ℕ → List ℤ) → Run
ran n at o shown =
    record { answered = tab n (λ i. told (o i)); shown = tab n shown; tickets = tab n (λ i. (at (suc i)).ticket); state = at n }

-- from an accepted opening, what the calls give back, show and leave is what condition 3 settles
abbrev pub LentCondition3 : Type 0
LentCondition3 =
    (w h ck rk : ℕ) (residuals scratch output : List ℤ) → open_answer w h ck rk residuals (length scratch) (length output) ≡ answers 0
    → (cs : List Call) (at : ℕ → State) (o : ℕ → Outcome) (shown : ℕ → List ℤ) → Calls residuals (state_at (new_ticket w h ck rk) scratch output) cs at o shown
    → ran (length cs) at o shown ≡ settled w h ck rk residuals scratch output cs
