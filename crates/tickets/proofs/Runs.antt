-- A run of a list, batch by batch from the front. Assumes nothing.
use mathlib.Core.Path.{◌≡◌, refl, ap, ◌∙◌}
use mathlib.Core.List.{List, [], ◌∷◌}
use Prim.Native.Nat.{ℕ, zero, suc}
use lib.IntN.{ℤ}
use lib.ListN.{length}
use Rattle.laws.specs.Store.{tab}
use Rattle.laws.proofs.Tab.{tab_cons}
use Rattle.laws.proofs.Laid.{tab_ext}
use Rattle.answer.specs.Answer.{Answer}
use Rattle.tickets.specs.declared.Batch.{Batch}
use Rattle.tickets.specs.Run.{State, Step, Run, nth, step, state_after, run}
use Rattle.tickets.specs.declared.Ticket.{Ticket}

abbrev pub onto : Step → Run → Run
onto r all = record { answered = r.answer ∷ all.answered; tickets = r.state.ticket ∷ all.tickets; state = all.state }

pub run_none : (residuals : List ℤ) (s : State) → run residuals s [] ≡ record { answered = []; tickets = []; state = s }
unfolding run state_after tab
run_none residuals s = refl

module _ (residuals : List ℤ) (s : State) (b : Batch) (bs : List Batch) where
  abbrev next : State
  next = (step residuals s b).state

  state_on : (i : ℕ) → state_after residuals s (b ∷ bs) (suc i) ≡ state_after residuals next bs i
  unfolding state_after
  state_on zero = refl
  state_on (suc i) = ap (λ (t : State). (step residuals t (nth bs i)).state) (state_on i)

  run_same : {a a' : List Answer} {t t' : List Ticket} {u u' : State} → a ≡ a' → t ≡ t' → u ≡ u'
      → ◌≡◌ {A = Run} (record { answered = a; tickets = t; state = u }) (record { answered = a'; tickets = t'; state = u' })
  run_same p q r = rw (p, q, r)

  pub run_on : run residuals s (b ∷ bs) ≡ onto (step residuals s b) (run residuals next bs)
  unfolding run state_after
  run_on =
      run_same
      (tab_cons (length bs) (λ i. (step residuals (state_after residuals s (b ∷ bs) i) (nth (b ∷ bs) i)).answer)
      ∙ ap (λ (l : List Answer). (step residuals s b).answer ∷ l)
      (tab_ext (length bs) _ _ (λ i c. ap (λ (t : State). (step residuals t (nth bs i)).answer) (state_on i))))
      (tab_cons (length bs) (λ i. (state_after residuals s (b ∷ bs) (suc i)).ticket)
      ∙ ap (λ (l : List Ticket). next.ticket ∷ l)
      (tab_ext (length bs) _ _ (λ i c. ap (λ (t : State). t.ticket) (state_on (suc i)))))
      (state_on (length bs))
