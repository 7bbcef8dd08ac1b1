-- Condition 3 of a list run on a lent ticket: each call is a turn of the by-value calls, so the list's run is theirs. Assumes nothing.
use mathlib.Core.Path.{◌≡◌, ap, ap₂, ◌∙◌}
use mathlib.Core.Bool.{Bool, true, false}
use mathlib.Core.List.{List}
use Prim.Native.Nat.{ℕ, zero, suc, ◌≤◌, ◌<◌}
use native.Mathlib.Omega.{arith}
use lib.IntN.{ℤ}
use lib.ListN.{length}
use Rattle.laws.proofs.Laid.{tab_ext}
use Rattle.answer.specs.Answer.{told}
use Rattle.answer.specs.Answer.{Outcome}
use Rattle.tickets.specs.Batch.{batch_of}
use Rattle.tickets.specs.Run.{State, state_at, Step, column_step, row_step, step}
use Rattle.previews.specs.Calls.{Call, runs, looks, Turn, preview_turn, turn, nth, state_after, run}
use Rattle.previews.proofs.Condition3.{condition3}
use Rattle.dispatch.specs.Calls.{BatchCalled, Called, Calls, ran, LentCondition3}

-- a batch is a step
batch_step : (residuals : List ℤ) (s : State) (row : Bool) (start count : ℕ) (o : Outcome) (t : State) → BatchCalled residuals s row start count o t
    → record { answer = told o; state = t } ≡ step residuals s (batch_of row start count)
unfolding step
batch_step residuals s true start count o t c =
    ap (λ (d : List ℤ). record { answer = told o; state = state_at t.ticket d t.output }) c.1 ∙ ap (row_step s) c.0
batch_step residuals s false start count o t c =
    ap (λ (d : List ℤ). record { answer = told o; state = state_at t.ticket t.scratch d }) c.1 ∙ ap (column_step s) c.0

-- a call is a turn
called_turn : (residuals : List ℤ) (s : State) (c : Call) (o : Outcome) (shown : List ℤ) (t : State) → Called residuals s c o shown t
    → record { answer = told o; shown = shown; state = t } ≡ turn residuals s c
called_turn residuals s (runs b) o shown t c =
    ap₂ (λ (d : List ℤ) (r : Step). record { answer = r.answer; shown = d; state = r.state }) c.1
    (batch_step residuals s b.row b.start b.count o t c.0)
called_turn residuals s (looks b room) o shown t c =
    ap (λ (x : State). record { answer = told o; shown = shown; state = x }) c.1 ∙ ap (preview_turn s) c.0

module _ (residuals : List ℤ) (s : State) (cs : List Call) (at : ℕ → State) (o : ℕ → Outcome) (shown : ℕ → List ℤ) (c : Calls residuals s cs at o shown) where
  next_turn : (i : ℕ) → i < length cs → record { answer = told (o i); shown = shown i; state = at (suc i) } ≡ turn residuals (at i) (nth cs i)
  next_turn i b = called_turn residuals (at i) (nth cs i) (o i) (shown i) (at (suc i)) (c.next i b)

  state_is : (i : ℕ) → i ≤ length cs → at i ≡ state_after residuals s cs i
  unfolding state_after
  state_is zero b = c.first
  state_is (suc i) b =
      ap (λ (r : Turn). r.state) (next_turn i (omega arith)) ∙ ap (λ (t : State). (turn residuals t (nth cs i)).state) (state_is i (omega arith))

  call_is : (i : ℕ) → i < length cs
      → record { answer = told (o i); shown = shown i; state = at (suc i) } ≡ turn residuals (state_after residuals s cs i) (nth cs i)
  call_is i b = next_turn i b ∙ ap (λ (t : State). turn residuals t (nth cs i)) (state_is i (omega arith))

  ran_run : ran (length cs) at o shown ≡ run residuals s cs
  unfolding ran run
  ran_run =
      rw (
        tab_ext (length cs) _ _ (λ i b. ap (λ (r : Turn). r.answer) (call_is i b)),
        tab_ext (length cs) _ _ (λ i b. ap (λ (r : Turn). r.shown) (call_is i b)),
        tab_ext (length cs) _ _ (λ i b. ap (λ (t : State). t.ticket) (state_is (suc i) b)),
        state_is (length cs) (omega arith),
      )

pub lent_condition3 : LentCondition3
lent_condition3 w h ck rk residuals scratch output e cs at o shown c =
    ran_run residuals _ cs at o shown c ∙ condition3 w h ck rk residuals scratch output e cs
