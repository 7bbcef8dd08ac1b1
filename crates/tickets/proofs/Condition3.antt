-- Condition 3: by induction on how many batches of the list have run. Assumes nothing.
use mathlib.Core.Path.{◌≡◌, refl, ap, ◌∙◌}
use mathlib.Core.Bool.{true, false}
use mathlib.Core.List.{List}
use Prim.Native.Nat.{ℕ, zero, suc}
use lib.IntN.{ℤ}
use lib.ListN.{length}
use Rattle.laws.proofs.Laid.{tab_ext}
use Rattle.tickets.specs.declared.Batch.{Batch}
use Rattle.tickets.specs.Open.{new_ticket}
use Rattle.tickets.specs.Run.{State, state_at, Step, nth, step, state_after, run}
use Rattle.tickets.specs.Condition3.{Condition3, answer_to, covered, ticket_of, number_at, state_of, settled}
use Rattle.tickets.proofs.Mark.{none_zero}
use Rattle.tickets.proofs.Held.{held_none}
use Rattle.tickets.proofs.Opened.{Opened, opened}
use Rattle.tickets.proofs.Reached.{Reached, reached_none, reached_with}
use Rattle.tickets.proofs.Step.{step_is}

pub reached : (w h : ℕ) (bs : List Batch) (i : ℕ) → Reached w h (covered w h bs i)
unfolding covered
reached w h bs zero = reached_none w h
reached w h bs (suc i) = reached_with (reached w h bs i) (nth bs i)

-- the opening's ticket and buffers: no line is done
pub opening_is : (w h ck rk : ℕ) (residuals scratch output : List ℤ)
    → state_at (new_ticket w h ck rk) scratch output ≡ state_of w h ck rk residuals scratch output (λ row j. false)
unfolding state_of ticket_of
opening_is w h ck rk residuals scratch output =
    rw (
      none_zero (λ j. false) (λ j b. refl),
      held_none h (number_at w h ck rk residuals false) scratch,
      held_none w (number_at w h ck rk residuals true) output,
    )

-- ---- the list

module _ (w h ck rk : ℕ) (residuals scratch output : List ℤ) (o : Opened w h ck rk residuals (length scratch) (length output)) (bs : List Batch) where
  abbrev from : State
  from = state_at (new_ticket w h ck rk) scratch output

  abbrev at : ℕ → State
  at i = state_of w h ck rk residuals scratch output (covered w h bs i)

  next_is : (i : ℕ) → step residuals (at i) (nth bs i) ≡ record { answer = answer_to w h (covered w h bs i false) (nth bs i); state = at (suc i) }
  unfolding covered
  next_is i = step_is w h ck rk residuals scratch output o (reached w h bs i) (nth bs i)

  state_is : (i : ℕ) → state_after residuals from bs i ≡ at i
  unfolding state_after covered
  state_is zero = opening_is w h ck rk residuals scratch output
  state_is (suc i) = ap (λ (s : State). (step residuals s (nth bs i)).state) (state_is i) ∙ ap (λ (s : Step). s.state) (next_is i)

  answer_is : (i : ℕ) → (step residuals (state_after residuals from bs i) (nth bs i)).answer ≡ answer_to w h (covered w h bs i false) (nth bs i)
  answer_is i = ap (λ (s : State). (step residuals s (nth bs i)).answer) (state_is i) ∙ ap (λ (s : Step). s.answer) (next_is i)

pub condition3 : Condition3
unfolding run settled state_of
condition3 w h ck rk residuals scratch output e bs =
    let o = opened w h ck rk residuals (length scratch) (length output) e in
    rw (
      tab_ext (length bs) _ _ (λ i b. answer_is w h ck rk residuals scratch output o bs i),
      tab_ext (length bs) _ _ (λ i b. ap (λ (s : State). s.ticket) (state_is w h ck rk residuals scratch output o bs (suc i))),
      state_is w h ck rk residuals scratch output o bs (length bs),
    )
