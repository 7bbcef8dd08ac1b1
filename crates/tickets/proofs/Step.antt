-- One batch of a list: its answer is the one settled from the lines done before it, and so is the state that it leaves.
-- Assumes nothing.
use mathlib.Core.Path.{◌≡◌, refl, sym, ap, ◌∙◌}
use mathlib.Core.Logic.{⊎_elim}
use mathlib.Core.Bool.{Bool, true, false, cond, not, ◌&&◌, ◌||◌, beq, false≢true, or-false, and-false}
use mathlib.Core.List.{List}
use Prim.Native.Nat.{ℕ, ◌+◌, ◌-◌, ◌*◌, ◌<◌, ◌≤◌}
use native.Mathlib.Nat.{mul_comm, mul-le-mul_right, le_trans}
use native.Mathlib.Omega.{arith}
use borrow.Author.Tests.{le-ltb, not-false}
use lib.Arith.{digits_lt}
use lib.IntN.{ℤ}
use lib.ListN.{length}
use Rattle.laws.specs.Table.{every}
use Rattle.laws.proofs.Bool.{decided}
use Rattle.laws.proofs.Every.{every_all, every_each, every_same}
use Rattle.answer.specs.Answer.{Answer, answers, refuses, lowest, after}
use Rattle.sizes.proofs.Side.{side_bounds}
use Rattle.block.specs.Lines.{column_lines, row_lines}
use Rattle.block.proofs.Exact.{column_lines_exact, row_lines_exact}
use Rattle.tickets.specs.Mark.{marked, mask_of, any_from, all_marked, is_among, with_lines}
use Rattle.tickets.specs.Batch.{line_count, out_of_range, out_of_order, answer_unless, with_batch, lines_of, ticket_after, Given, batch}
use Rattle.tickets.specs.declared.Batch.{Batch}
use Rattle.tickets.specs.Run.{State, Step, column_step, row_step, step}
use Rattle.tickets.specs.Condition3.{covers, answer_to, accepted, covered_with, ticket_of, held, number_at, state_of}
use Rattle.tickets.specs.declared.Ticket.{Ticket}
use Rattle.tickets.proofs.Mark.{marked_mask, mask_same}
use Rattle.tickets.proofs.Held.{held_length, held_line, held_same, held_more}
use Rattle.tickets.proofs.Opened.{Opened}
use Rattle.tickets.proofs.Reached.{Reached, Refuses, cases, in_range}

-- ---- the order of batches

any_none : (n : ℕ) (p : ℕ → Bool) → n ≤ 32 → ((j : ℕ) → n ≤ j → p j ≡ false) → any_from n (mask_of 32 p) ≡ false
unfolding any_from
any_none n p few f =
    ap not
    (every_all (32 - n) (λ j. not (marked (mask_of 32 p) (n + j)))
    (λ j b. ap not (marked_mask 32 p (n + j) (omega arith) ∙ f (n + j) (omega arith))))

all_is : (n : ℕ) (p : ℕ → Bool) → n ≤ 32 → all_marked n (mask_of 32 p) ≡ every n p
unfolding all_marked
all_is n p few = every_same n (marked (mask_of 32 p)) p (λ j b. marked_mask 32 p j (omega arith))

-- x: every column is done; r: a row is
order_test : (x r row : Bool) → (x ≡ false → r ≡ false) → (not x && (r || row)) ≡ (row && not x)
order_test true r true f = refl
order_test true r false f = refl
order_test false true row f = absurd (false≢true (sym (f refl)))
order_test false false true f = refl
order_test false false false f = refl

-- ---- the masks after an accepted batch

columns_mask : (row : Bool) (p : ℕ → Bool) (s n : ℕ)
    → cond row (mask_of 32 p) (with_lines (mask_of 32 p) s n) ≡ mask_of 32 (λ j. p j || (beq row false && is_among s n j))
unfolding with_lines
columns_mask true p s n = mask_same 32 _ _ (λ j l. sym (or-false (p j)))
columns_mask false p s n = mask_same 32 _ _ (λ j l. ap (λ (x : Bool). x || is_among s n j) (marked_mask 32 p j l))

rows_mask : (row : Bool) (p : ℕ → Bool) (s n : ℕ)
    → cond row (with_lines (mask_of 32 p) s n) (mask_of 32 p) ≡ mask_of 32 (λ j. p j || (beq row true && is_among s n j))
unfolding with_lines
rows_mask true p s n = mask_same 32 _ _ (λ j l. ap (λ (x : Bool). x || is_among s n j) (marked_mask 32 p j l))
rows_mask false p s n = mask_same 32 _ _ (λ j l. sym (or-false (p j)))

covers_own : (b : Batch) (row : Bool) (j : ℕ) → b.row ≡ row → covers b row j ≡ is_among b.start b.count j
unfolding covers
covers_own b true j e = rw e
covers_own b false j e = rw e

covers_other : (b : Batch) (row : Bool) (j : ℕ) → b.row ≡ not row → covers b row j ≡ false
unfolding covers
covers_other b true j e = rw e
covers_other b false j e = rw e

-- ---- the two kinds of batch

column_lines_lem : (t : Ticket) (b : Batch) (source target : List ℤ) → b.row ≡ false
    → lines_of t b source target ≡ column_lines t.w t.h t.column_kind source b.start b.count target
unfolding lines_of
column_lines_lem t b source target e = rw e

row_lines_lem : (t : Ticket) (b : Batch) (source target : List ℤ) → b.row ≡ true
    → lines_of t b source target ≡ row_lines t.w t.h t.row_kind source b.start b.count target
unfolding lines_of
row_lines_lem t b source target e = rw e

module _ (residuals : List ℤ) (s : State) (b : Batch) where
  abbrev as_row : Given
  as_row = batch s.ticket b s.scratch s.output

  abbrev as_column : Given
  as_column = batch s.ticket b residuals s.scratch

  by_kind : {is : Bool} → b.row ≡ is
      → step residuals s b ≡ cond is (row_step s as_row) (column_step s as_column)
  unfolding step
  by_kind e = ap (λ (x : Bool). cond x (row_step s as_row) (column_step s as_column)) e

  pub step_column : b.row ≡ false → step residuals s b ≡ column_step s as_column
  step_column e = by_kind e

  pub step_row : b.row ≡ true → step residuals s b ≡ row_step s as_row
  step_row e = by_kind e

given_same : {a a' : Answer} {t t' : Ticket} {d d' : List ℤ} → a ≡ a' → t ≡ t' → d ≡ d'
    → ◌≡◌ {A = Given} (record { answer = a; ticket = t; buffer = d }) (record { answer = a'; ticket = t'; buffer = d' })
given_same p q r = rw (p, q, r)

-- ---- one batch, after batches that have done the lines that done names

module _ (w h ck rk : ℕ) (residuals scratch output : List ℤ) (o : Opened w h ck rk residuals (length scratch) (length output))
    {done : Bool → ℕ → Bool} (reached : Reached w h done) (b : Batch) where
  abbrev t : Ticket
  t = ticket_of w h ck rk done

  abbrev answer : Answer
  answer = answer_to w h (done false) b

  -- the lines done after the batch
  abbrev then : Bool → ℕ → Bool
  then = covered_with w h done b

  w_few : w ≤ 32
  w_few = (side_bounds w o.block.wide).high

  h_few : h ≤ 32
  h_few = (side_bounds h o.block.high).high

  outside : (row : Bool) (j : ℕ) → line_count w h row ≤ j → done row j ≡ false
  outside row j past = ⊎_elim (λ a. absurd (omega (arith, reached.inside row j a))) (λ a. a) (decided (done row j))

  no_rows : every w (done false) ≡ false → (j : ℕ) → done true j ≡ false
  no_rows e j = ⊎_elim (λ a. absurd (false≢true (sym e ∙ reached.ready j a))) (λ a. a) (decided (done true j))

  order_is : out_of_order t b.row ≡ (b.row && not (every w (done false)))
  unfolding out_of_order ticket_of
  order_is =
      rw (any_none w (done false) w_few (outside false), any_none h (done true) h_few (outside true), all_is w (done false) w_few)
      (order_test (every w (done false)) (any_from 0 (mask_of 32 (done true))) b.row
      (λ e. any_none 0 (done true) (omega arith) (λ j l. no_rows e j)))

  -- number 3 where a further buffer is short, else the batch's own answer
  pub answer_is : (short : Bool) (source target : ℕ) → w * h ≤ source → w * h ≤ target
      → answer_unless short t b source target ≡ cond short (refuses 3) answer
  unfolding answer_unless answer_to lowest ticket_of
  answer_is short source target a c =
      rw (
        order_is,
        o.block.wide,
        o.block.high,
        o.kinds,
        le-ltb source (w * h) a,
        le-ltb target (w * h) c,
        or-false short,
      )

  -- refused, a batch does no line
  stays : Refuses answer → (row : Bool) (j : ℕ) → done row j ≡ then row j
  stays r row j = sym (ap (λ (a : Answer). done row j || (accepted a && covers b row j)) r.is ∙ or-false (done row j))

  -- accepted, it does its own lines
  adds : answer ≡ answers b.count → (row : Bool) (j : ℕ) → (done row j || covers b row j) ≡ then row j
  adds e row j = sym (ap (λ (a : Answer). done row j || (accepted a && covers b row j)) e)

  ticket_with : (p q : Bool → ℕ → Bool) → ((row : Bool) (j : ℕ) → j < 32 → p row j ≡ q row j) → ticket_of w h ck rk p ≡ ticket_of w h ck rk q
  unfolding ticket_of
  ticket_with p q e = rw (mask_same 32 (p false) (q false) (e false), mask_same 32 (p true) (q true) (e true))

  marks_are : answer ≡ answers b.count → with_batch t b ≡ ticket_of w h ck rk then
  unfolding with_batch ticket_of covers
  marks_are e =
      rw (columns_mask b.row (done false) b.start b.count, rows_mask b.row (done true) b.start b.count)
      (ticket_with (λ row j. done row j || covers b row j) then (λ row j l. adds e row j))

  abbrev fits_in : Type 0
  fits_in = out_of_range (line_count w h b.row) b.start b.count ≡ false

  abbrev in_turn : Type 0
  in_turn = (b.row && not (every w (done false))) ≡ false

  -- what the batch gives back, where new is its buffer with the lines done after it
  batch_is : (source target new : List ℤ) → w * h ≤ length source → w * h ≤ length target
      → (answer ≡ answers b.count → fits_in → in_turn → lines_of t b source target ≡ new) → (Refuses answer → target ≡ new)
      → batch t b source target ≡ record { answer = answer; ticket = ticket_of w h ck rk then; buffer = new }
  unfolding batch
  batch_is source target new ls lt written kept =
      let is = answer_is false (length source) (length target) ls lt in
      let way = cases w h (done false) b in
      given_same is
      (ap (λ (a : Answer). ticket_after a (with_batch t b) t) is
      ∙ ⊎_elim
      (λ x. ap (λ (a : Answer). ticket_after a (with_batch t b) t) x.0 ∙ marks_are x.0)
      (λ r. ap (λ (a : Answer). ticket_after a (with_batch t b) t) r.is ∙ ticket_with done then (λ row j l. stays r row j))
      way)
      (ap (λ (a : Answer). after a (lines_of t b source target) target) is
      ∙ ⊎_elim
      (λ x. ap (λ (a : Answer). after a (lines_of t b source target) target) x.0 ∙ written x.0 x.1 x.2)
      (λ r. ap (λ (a : Answer). after a (lines_of t b source target) target) r.is ∙ kept r)
      way)

  -- a batch of a kind does the other kind's lines not at all, and its own where it is accepted
  pub own : (row : Bool) → b.row ≡ row → answer ≡ answers b.count → (j : ℕ) → (done row j || is_among b.start b.count j) ≡ then row j
  own row k e j = ap (λ (x : Bool). done row j || x) (sym (covers_own b row j k)) ∙ adds e row j

  others : (row : Bool) → b.row ≡ not row → (j : ℕ) → done row j ≡ then row j
  others row k j =
      sym (ap (λ (x : Bool). done row j || (accepted answer && x)) (covers_other b row j k)
      ∙ ap (λ (x : Bool). done row j || x) (and-false (accepted answer)) ∙ or-false (done row j))

  -- the scratch and the output, where the lines that p names hold their numbers
  abbrev scratch_of : (ℕ → Bool) → List ℤ
  scratch_of p = held h p (number_at w h ck rk residuals false) scratch

  abbrev output_of : (ℕ → Bool) → List ℤ
  output_of p = held w p (number_at w h ck rk residuals true) output

  pub long_scratch : w * h ≤ length (scratch_of (done false))
  long_scratch = omega (arith, o.block.scratch_long, held_length h (done false) (number_at w h ck rk residuals false) scratch)

  pub long_output : w * h ≤ length (output_of (done true))
  long_output = omega (arith, o.block.output_long, held_length w (done true) (number_at w h ck rk residuals true) output)

  pub column_written : b.row ≡ false → answer ≡ answers b.count → fits_in → lines_of t b residuals (scratch_of (done false)) ≡ scratch_of (then false)
  unfolding ticket_of number_at
  column_written k e r =
      let room : b.start + b.count ≤ w = (in_range w b.start b.count (rw k at r)).end in
      column_lines_lem t b residuals (scratch_of (done false)) k
      ∙ (column_lines_exact w h ck residuals o.block.wide o.block.high o.block.column_kernel o.small
      b.start b.count (scratch_of (done false)) room
      ∙ held_more h (done false) (number_at w h ck rk residuals false) scratch b.start b.count (omega (arith, side_bounds h o.block.high))
      (le_trans (mul-le-mul_right h room) o.block.scratch_long)
      ∙ held_same h _ (then false) (number_at w h ck rk residuals false) scratch (own false k e))

  pub row_written : b.row ≡ true → answer ≡ answers b.count → fits_in → in_turn
      → lines_of t b (scratch_of (done false)) (output_of (done true)) ≡ output_of (then true)
  unfolding ticket_of number_at
  row_written k e r q =
      let room : b.start + b.count ≤ h = (in_range h b.start b.count (rw k at r)).end in
      let all : every w (done false) ≡ true = not-false (every w (done false)) (rw k at q) in
      row_lines_lem t b (scratch_of (done false)) (output_of (done true)) k
      ∙ (row_lines_exact w h ck residuals o.block.wide o.block.high o.block.column_kernel o.small rk o.block.row_kernel
      (scratch_of (done false))
      (λ j f bj bf.
      held_line h (done false) (number_at w h ck rk residuals false) scratch j f bf
      (omega (arith, digits_lt bj bf, o.block.scratch_long)) (every_each w (done false) all j bj))
      b.start b.count (output_of (done true)) room
      ∙ held_more w (done true) (number_at w h ck rk residuals true) output b.start b.count (omega (arith, side_bounds w o.block.wide))
      (le_trans (mul-le-mul_right w room) (omega (arith, mul_comm h w, o.block.output_long)))
      ∙ held_same w _ (then true) (number_at w h ck rk residuals true) output (own true k e))

  abbrev before : State
  before = state_of w h ck rk residuals scratch output done

  abbrev next : Step
  next = record { answer = answer; state = state_of w h ck rk residuals scratch output then }

  column_step_lem : b.row ≡ false → step residuals before b ≡ next
  unfolding state_of
  column_step_lem k =
      step_column residuals before b k
      ∙ ap (column_step before)
      (batch_is residuals (scratch_of (done false)) (scratch_of (then false)) o.block.residuals_long long_scratch
      (λ e r q. column_written k e r)
      (λ r. held_same h (done false) (then false) (number_at w h ck rk residuals false) scratch (stays r false)))
      ∙ ap (λ (d : List ℤ). record { answer = answer; state = record { ticket = ticket_of w h ck rk then; scratch = scratch_of (then false); output = d } })
      (held_same w (done true) (then true) (number_at w h ck rk residuals true) output (others true k))

  row_step_lem : b.row ≡ true → step residuals before b ≡ next
  unfolding state_of
  row_step_lem k =
      step_row residuals before b k
      ∙ ap (row_step before)
      (batch_is (scratch_of (done false)) (output_of (done true)) (output_of (then true)) long_scratch long_output
      (row_written k)
      (λ r. held_same w (done true) (then true) (number_at w h ck rk residuals true) output (stays r true)))
      ∙ ap (λ (d : List ℤ). record { answer = answer; state = record { ticket = ticket_of w h ck rk then; scratch = d; output = output_of (then true) } })
      (held_same h (done false) (then false) (number_at w h ck rk residuals false) scratch (others false k))

  pub step_is : step residuals before b ≡ next
  step_is = ⊎_elim row_step_lem column_step_lem (decided b.row)
