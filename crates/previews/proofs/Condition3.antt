-- Condition 3 with previews between batches: by induction on how many calls of the list have run. Assumes nothing.
use mathlib.Core.Path.{◌≡◌, refl, sym, ap, ap₂, subst, ◌∙◌}
use mathlib.Core.Bool.{Bool, false}
use mathlib.Core.List.{List, map}
use Prim.Native.Nat.{ℕ, zero, suc}
use lib.IntN.{ℤ}
use lib.ListN.{length, length-map, get_or-map}
use Rattle.laws.proofs.Laid.{length_tab, tab_ext}
use Rattle.tickets.specs.Batch.{batch_of}
use Rattle.tickets.specs.declared.Batch.{Batch}
use Rattle.tickets.specs.Open.{new_ticket}
use Rattle.tickets.specs.Run as batches
use Rattle.tickets.specs.Run.{State, state_at, step}
use Rattle.tickets.specs.Condition3 as alone
use Rattle.tickets.specs.Condition3.{answer_to, ticket_of, state_of}
use Rattle.tickets.specs.ByPlace.{ByPlace}
use Rattle.tickets.proofs.Opened.{Opened, opened}
use Rattle.tickets.proofs.Reached.{Reached, reached_none, reached_with}
use Rattle.tickets.proofs.Step.{step_is}
use Rattle.tickets.proofs.Condition3.{opening_is}
use Rattle.tickets.proofs.ByPlace.{reads}
use Rattle.previews.specs.Calls.{Call, runs, looks, Turn, batch_turn, preview_turn, turn, nth, state_after, Run, run}
use Rattle.previews.specs.Condition3.{covered_next, covered, answer_to_call, shown_by, settled, Condition3, PlaceByPlace, BatchesAlone}
use Rattle.previews.proofs.InList.{preview_is}

-- ---- one call

reached_next : {w h : ℕ} {done : Bool → ℕ → Bool} → Reached w h done → (c : Call) → Reached w h (covered_next w h done c)
reached_next r (runs b) = reached_with r b
reached_next r (looks b room) = r

turn_is : (w h ck rk : ℕ) (residuals scratch output : List ℤ) → Opened w h ck rk residuals (length scratch) (length output)
    → {done : Bool → ℕ → Bool} → Reached w h done → (c : Call)
    → turn residuals (state_of w h ck rk residuals scratch output done) c
    ≡ record {
      answer = answer_to_call w h (done false) c;
      shown = shown_by w h ck rk residuals (done false) c;
      state = state_of w h ck rk residuals scratch output (covered_next w h done c);
    }
turn_is w h ck rk residuals scratch output o r (runs b) = ap batch_turn (step_is w h ck rk residuals scratch output o r b)
turn_is w h ck rk residuals scratch output o {done} r (looks b room) =
    ap (preview_turn (state_of w h ck rk residuals scratch output done)) (preview_is w h ck rk residuals scratch output o r b room)

-- ---- the list

pub reached : (w h : ℕ) (cs : List Call) (i : ℕ) → Reached w h (covered w h cs i)
unfolding covered
reached w h cs zero = reached_none w h
reached w h cs (suc i) = reached_next (reached w h cs i) (nth cs i)

module _ (w h ck rk : ℕ) (residuals scratch output : List ℤ) (o : Opened w h ck rk residuals (length scratch) (length output)) (cs : List Call) where
  abbrev from : State
  from = state_at (new_ticket w h ck rk) scratch output

  abbrev at : ℕ → State
  at i = state_of w h ck rk residuals scratch output (covered w h cs i)

  abbrev settled_turn : ℕ → Turn
  settled_turn i =
      record {
        answer = answer_to_call w h (covered w h cs i false) (nth cs i);
        shown = shown_by w h ck rk residuals (covered w h cs i false) (nth cs i);
        state = at (suc i);
      }

  next_is : (i : ℕ) → turn residuals (at i) (nth cs i) ≡ settled_turn i
  unfolding covered
  next_is i = turn_is w h ck rk residuals scratch output o (reached w h cs i) (nth cs i)

  state_is : (i : ℕ) → state_after residuals from cs i ≡ at i
  unfolding state_after covered
  state_is zero = opening_is w h ck rk residuals scratch output
  state_is (suc i) = ap (λ (s : State). (turn residuals s (nth cs i)).state) (state_is i) ∙ ap (λ (s : Turn). s.state) (next_is i)

  call_is : (i : ℕ) → turn residuals (state_after residuals from cs i) (nth cs i) ≡ settled_turn i
  call_is i = ap (λ (s : State). turn residuals s (nth cs i)) (state_is i) ∙ next_is i

pub condition3 : Condition3
unfolding run settled state_of
condition3 w h ck rk residuals scratch output e cs =
    let o = opened w h ck rk residuals (length scratch) (length output) e in
    let call = call_is w h ck rk residuals scratch output o cs in
    let state = state_is w h ck rk residuals scratch output o cs in
    rw (
      tab_ext (length cs) _ _ (λ i b. ap (λ (s : Turn). s.answer) (call i)),
      tab_ext (length cs) _ _ (λ i b. ap (λ (s : Turn). s.shown) (call i)),
      tab_ext (length cs) _ _ (λ i b. ap (λ (s : State). s.ticket) (state (suc i))),
      state (length cs),
    )

pub place_by_place : PlaceByPlace
unfolding settled
place_by_place w h ck rk residuals scratch output e cs =
    subst (λ (r : Run). ByPlace w h ck rk residuals scratch output (covered w h cs (length cs)) r.state)
    (sym (condition3 w h ck rk residuals scratch output e cs))
    (reads w h ck rk residuals scratch output (opened w h ck rk residuals (length scratch) (length output) e) (reached w h cs (length cs)))

-- ---- batches alone

module _ (bs : List Batch) where
  abbrev cs : List Call
  cs = map runs bs

  nth_is : (i : ℕ) → nth cs i ≡ runs (batches.nth bs i)
  nth_is i = get_or-map runs bs i (batch_of false 0 0)

  state_alone : (residuals : List ℤ) (s : State) (i : ℕ) → state_after residuals s cs i ≡ batches.state_after residuals s bs i
  unfolding state_after batches.state_after
  state_alone residuals s zero = refl
  state_alone residuals s (suc i) =
      ap₂ (λ (x : State) (c : Call). (turn residuals x c).state) (state_alone residuals s i) (nth_is i)

  covered_alone : (w h i : ℕ) → covered w h cs i ≡ alone.covered w h bs i
  unfolding covered alone.covered
  covered_alone w h zero = refl
  covered_alone w h (suc i) = ap₂ (λ (d : Bool → ℕ → Bool) (c : Call). covered_next w h d c) (covered_alone w h i) (nth_is i)

pub batches_alone : BatchesAlone
unfolding run settled batches.run alone.settled
batches_alone w h ck rk residuals scratch output s bs =
    let same = length-map bs runs in
    let state = state_alone bs residuals s in
    let done = covered_alone bs w h in (
      rw same
          (rw (
            length_tab (length bs) (λ i. (step residuals (batches.state_after residuals s bs i) (batches.nth bs i)).answer),
            tab_ext (length bs) _ _ (λ i b. ap₂ (λ (x : State) (c : Call). (turn residuals x c).answer) (state i) (nth_is bs i)),
            tab_ext (length bs) _ _ (λ i b. ap₂ (λ (x : State) (c : Call). (turn residuals x c).shown) (state i) (nth_is bs i)),
            tab_ext (length bs) _ _ (λ i b. ap (λ (x : State). x.ticket) (state (suc i))),
            state (length bs),
          )),
      rw same
          (rw (
            length_tab (length bs) (λ i. answer_to w h (alone.covered w h bs i false) (batches.nth bs i)),
            tab_ext (length bs) _ _ (λ i b. ap₂ (λ (d : Bool → ℕ → Bool) (c : Call). answer_to_call w h (d false) c) (done i) (nth_is bs i)),
            tab_ext (length bs) _ _ (λ i b. ap₂ (λ (d : Bool → ℕ → Bool) (c : Call). shown_by w h ck rk residuals (d false) c) (done i) (nth_is bs i)),
            tab_ext (length bs) _ _ (λ i b. ap (ticket_of w h ck rk) (done (suc i))),
            done (length bs),
          )),
    )
