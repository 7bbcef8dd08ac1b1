-- A lent list of batches, played: after i turns the state is what the first i batches leave, and the first i answers are written.
-- Assumes nothing.
use mathlib.Core.Path.{◌≡◌, refl, sym, ap, ap₂, ◌∙◌}
use mathlib.Core.Bool.{Bool, false}
use mathlib.Core.Logic.{⊎_elim}
use mathlib.Core.List.{List, ◌∷◌, ◌++◌, map}
use Prim.Native.Nat.{ℕ, ◌+◌, ◌<◌, ◌≤◌, ◌^◌}
use native.Mathlib.Numerals.{add-one}
use native.Mathlib.Omega.{arith}
use lib.Dec.{T, eqb}
use lib.IntN.{ℤ, pos}
use lib.ListN.{length, get_or, set, drop}
use Rattle.laws.proofs.Bool.{decided}
use Rattle.laws.proofs.Filled.{front_rest}
use Rattle.laws.proofs.Laid.{length_tab, get_or_tab}
use Rattle.laws.proofs.Store.{Stored, stored_none, stored_turn, stored_all}
use Rattle.laws.proofs.Tab.{map_tab}
use Rattle.answer.specs.Answer.{Answer, answers, refuses, number_of, lowest, after, told, signed_of, is_small}
use Rattle.std.specs.Prelude.{Ok, Err}
use Rattle.answer.specs.declared.Refusal.{Refusal}
use Rattle.answer.proofs.Answer.{small_if, guarded_small}
use Rattle.tickets.specs.Batch.{batch_of, line_count, answer_unless, batch}
use Rattle.tickets.specs.declared.Batch.{Batch}
use Rattle.tickets.specs.Play.{batches_of, play_answer, Played, state_unless, played_as, played, step_given, play_given, AsSettled}
use Rattle.tickets.specs.Run.{State, state_at, Step, Run, nth, step, state_after, run}
use Rattle.tickets.specs.declared.Batched.{Batched}
use Rattle.tickets.specs.declared.Ticket.{Ticket}
use Rattle.tickets.proofs.Condition3.{condition3}
use Rattle.tickets.proofs.Reached.{in_range}
use Rattle.tickets.proofs.Step.{step_column, step_row}

-- ---- a batch's answer is a number of 64 bits

skip : (b : Bool) (k : ℕ) (rs : List (Bool × ℕ)) (n : ℕ) → T (is_small (lowest rs n)) → T (is_small (lowest ((b, k) ∷ rs) n))
unfolding lowest
skip b k rs n t = small_if b k (lowest rs n) (λ e. t)

pub answer_small : (short : Bool) (t : Ticket) (b : Batch) (source target : ℕ) → T (is_small (answer_unless short t b source target))
unfolding answer_unless
answer_small short t b source target =
    skip _ 1 _ _ (skip _ 2 _ _ (skip _ 3 _ _
    (guarded_small _ 5 _ _ (λ e. few (in_range (line_count t.w t.h b.row) b.start b.count e).few))))
  where
    few : {n : ℕ} → n ≤ 8 → n < 2 ^ 63
    few l = omega arith

pub step_small : (residuals : List ℤ) (s : State) (b : Batch) → T (is_small (step residuals s b).answer)
unfolding batch
step_small residuals s b =
    ⊎_elim
    (λ e. rw (step_row residuals s b e) (answer_small false s.ticket b (length s.scratch) (length s.output)))
    (λ e. rw (step_column residuals s b e) (answer_small false s.ticket b (length residuals) (length s.scratch)))
    (decided b.row)

-- ---- a list that is played, whatever its batches give back and leave

same_played : {a a' : Answer} {s s' : State} {l l' : List ℤ} → a ≡ a' → s ≡ s' → l ≡ l'
    → ◌≡◌ {A = Played} (record { answer = a; state = s; answered = l }) (record { answer = a'; state = s'; answered = l' })
same_played p q r = rw (p, q, r)

done_is : (all : Run) (s : State) (room : List ℤ) (t : Ticket) {a : Answer} {n : ℕ} {scratch output answered : List ℤ}
    → answers n ≡ a
    → state_at t scratch output ≡ all.state → answered ≡ map signed_of all.answered ++ drop (length all.answered) room
    → play_given (record { ticket = t; outcome = Ok n }) scratch output answered ≡ played_as all a s room
unfolding played_as
done_is all s room t e p q =
    same_played e
    (p ∙ ap (λ (x : Answer). state_unless x all.state s) e)
    (q ∙ ap (λ (x : Answer). after x (map signed_of all.answered ++ drop (length all.answered) room) room) e)

-- ---- the loop

batch_at : (kinds starts counts : List ℕ) (i : ℕ) → i < length kinds
    → nth (batches_of kinds starts counts) i ≡ batch_of (eqb (get_or kinds i 0) 1) (get_or starts i 0) (get_or counts i 0)
unfolding batches_of
batch_at kinds starts counts i b = get_or_tab (length kinds) (λ i. batch_of (eqb (get_or kinds i 0) 1) (get_or starts i 0) (get_or counts i 0)) i (batch_of false 0 0) b

-- the answer to batch k of the list, as it is written
abbrev pub written_at : List ℤ → State → List Batch → ℕ → ℤ
written_at residuals s bs k = signed_of (step residuals (state_after residuals s bs k) (nth bs k)).answer

-- after i turns
pub record Going (residuals : List ℤ) (s : State) (bs : List Batch) (room : List ℤ) (i : ℕ) (t : Ticket)
    (scratch output answered : List ℤ) : Type 0 where
  pub state : state_at t scratch output ≡ state_after residuals s bs i
  pub stored : Stored answered room i (λ k. k) (written_at residuals s bs)

-- a turn: r is what its batch gives back, with the work buffers after it
module _ (kinds starts counts : List ℕ) (r : Batched) {residuals : List ℤ} {s : State} {room : List ℤ} {i : ℕ} {t : Ticket}
    {scratch output answered scratch' output' : List ℤ} (going : Going residuals s (batches_of kinds starts counts) room i t scratch output answered)
    (few : i < length kinds)
    (gives : step_given r scratch' output' ≡ step residuals (state_at t scratch output) (batch_of (eqb (get_or kinds i 0) 1) (get_or starts i 0) (get_or counts i 0))) where
  turn_is : step_given r scratch' output' ≡ step residuals (state_after residuals s (batches_of kinds starts counts) i) (nth (batches_of kinds starts counts) i)
  turn_is = gives ∙ ap₂ (step residuals) going.state (sym (batch_at kinds starts counts i few))

  pub turn_small : T (is_small (told r.outcome))
  turn_small =
      rw (ap (λ (x : Step). x.answer) turn_is)
      (step_small residuals (state_after residuals s (batches_of kinds starts counts) i) (nth (batches_of kinds starts counts) i))

  pub going_on : {v : ℤ} → v ≡ signed_of (told r.outcome)
      → Going residuals s (batches_of kinds starts counts) room (i + 1) r.ticket scratch' output' (set answered i v)
  unfolding state_after
  going_on h =
      record {
        state = rw (add-one i) (ap (λ (x : Step). x.state) turn_is);
        stored = stored_turn going.stored refl (h ∙ ap (λ (x : Step). signed_of x.answer) turn_is);
      }

module _ (residuals : List ℤ) (s : State) (kinds starts counts : List ℕ) (room : List ℤ) where
  abbrev bs : List Batch
  bs = batches_of kinds starts counts

  pub going_none : Going residuals s bs room 0 s.ticket s.scratch s.output room
  unfolding state_after
  going_none = record { state = refl; stored = stored_none }

  many : length bs ≡ length kinds
  unfolding batches_of
  many = length_tab (length kinds) _

  -- the whole list
  pub going_all : {i n : ℕ} (t : Ticket) {scratch output answered : List ℤ} → Going residuals s bs room i t scratch output answered
      → i ≡ length kinds → i ≤ length room → answers n ≡ play_answer kinds (length starts) (length counts) (length room)
      → play_given (record { ticket = t; outcome = Ok n }) scratch output answered ≡ played residuals s kinds starts counts room
  unfolding played run
  going_all {i} t inv all long a =
      let e : i ≡ length bs = all ∙ sym many in
      let f : ℕ → Answer = λ k. (step residuals (state_after residuals s bs k) (nth bs k)).answer in
      done_is (run residuals s bs) s room t a
      (inv.state ∙ ap (state_after residuals s bs) e)
      (stored_all inv.stored e
      ∙ front_rest room (length bs) (written_at residuals s bs) (pos 0) (omega (arith, e))
      ∙ ap₂ (λ (l : List ℤ) (k : ℕ). l ++ drop k room) (sym (map_tab signed_of (length bs) f)) (sym (length_tab (length bs) f)))

  pub not_played : (why : Refusal) → refuses (number_of why) ≡ play_answer kinds (length starts) (length counts) (length room)
      → play_given (record { ticket = s.ticket; outcome = Err why }) s.scratch s.output room ≡ played residuals s kinds starts counts room
  unfolding played played_as
  not_played why e = rw (sym e)

-- condition 3 at the list
pub as_settled : (t : Ticket) (residuals scratch output : List ℤ) (kinds starts counts : List ℕ) (room : List ℤ) (given : Played)
    → given ≡ played residuals (state_at t scratch output) kinds starts counts room → AsSettled t residuals scratch output kinds starts counts room given
unfolding played
as_settled t residuals scratch output kinds starts counts room given e accepted new =
    e
    ∙ ap (λ (all : Run). played_as all (play_answer kinds (length starts) (length counts) (length room)) (state_at t scratch output) room)
    (ap (λ (u : Ticket). run residuals (state_at u scratch output) (batches_of kinds starts counts)) new
    ∙ condition3 t.w t.h t.column_kind t.row_kind residuals scratch output accepted (batches_of kinds starts counts))
