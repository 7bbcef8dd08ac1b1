-- Condition 3: what every list of batches from an accepted opening gives back and leaves, settled "from the list and the opening's
-- sides and kinds alone". Nothing here but the last statement knows how a batch is carried out.
use Rattle.std.specs.Prelude.{◌≡◌, Bool, true, false, cond, not, ◌&&◌, ◌||◌, List, [], ◌∷◌, ℕ, zero, suc, ◌/◌, ◌%◌, ℤ, pos, length, get_or}
use Rattle.std.specs.Bool.{beq}
use Rattle.laws.specs.Store.{tab}
use Rattle.laws.specs.Table.{every}
use Rattle.answer.specs.Answer.{Answer, answers, refuses, lowest}
use Rattle.block.specs.Block.{column_at, row_at}
use Rattle.tickets.specs.Mark.{mask_of, is_among}
use Rattle.tickets.specs.Batch.{line_count, out_of_range}
use Rattle.tickets.specs.declared.Batch.{Batch}
use Rattle.tickets.specs.Open.{open_answer, new_ticket}
use Rattle.tickets.specs.Run.{State, state_at, Run, nth, run}
use Rattle.tickets.specs.declared.Ticket.{Ticket}

-- "A column batch covers column lines, a row batch row lines: as many as it names, from its start."
unfoldable pub covers : Batch → Bool → ℕ → Bool
covers b row j = beq b.row row && is_among b.start b.count j

-- "number 5 is given exactly by its own rule; otherwise number 6 exactly to a row batch with a column line that no accepted column
-- batch before it in the list covers; every other batch is accepted and answers the number of its lines". done j: such a batch
-- covers column line j
unfoldable pub answer_to : ℕ → ℕ → (ℕ → Bool) → Batch → Answer
answer_to w h done b =
    lowest
    ((out_of_range (line_count w h b.row) b.start b.count, 5) ∷
    (b.row && not (every w done), 6) ∷ [])
    b.count

abbrev pub accepted : Answer → Bool
accepted (answers n) = true
accepted (refuses k) = false

-- the lines that accepted batches cover once one batch more has come: done row j where one before it covers line j, a row line or a
-- column line
abbrev pub covered_with : ℕ → ℕ → (Bool → ℕ → Bool) → Batch → Bool → ℕ → Bool
covered_with w h done b row j = done row j || (accepted (answer_to w h (done false) b) && covers b row j)

-- an accepted batch among the first i of the list covers line j
unfoldable pub covered : ℕ → ℕ → List Batch → ℕ → Bool → ℕ → Bool
covered w h bs zero row j = false
covered w h bs (suc i) row j = covered_with w h (covered w h bs i) (nth bs i) row j

-- "the opening's sides and kinds, with just the marks of the lines that accepted batches have covered so far": done row j where one
-- covers line j
unfoldable pub ticket_of : ℕ → ℕ → ℕ → ℕ → (Bool → ℕ → Bool) → Ticket
ticket_of w h ck rk done =
    record {
      w = w;
      h = h;
      column_kind = ck;
      row_kind = rk;
      columns = mask_of 32 (done false);
      rows = mask_of 32 (done true);
    }

-- a work buffer whose line j is its n numbers from place j × n: each line that p names holds g's numbers, "and every number .. outside
-- the marked lines is as at opening"
unfoldable pub held : ℕ → (ℕ → Bool) → (ℕ → ℕ → ℤ) → List ℤ → List ℤ
held n p g opening = tab (length opening) (λ q. cond (p (q / n)) (g (q / n) (q % n)) (get_or opening q (pos 0)))

-- "condition 2's numbers are the first pass's for a column line, and for a row line the block's output, scaled where a block is"
unfoldable pub number_at : ℕ → ℕ → ℕ → ℕ → List ℤ → Bool → ℕ → ℕ → ℤ
number_at w h ck rk residuals true j f = row_at w h ck rk residuals j f
number_at w h ck rk residuals false j f = column_at w h ck residuals j f

-- "column line j is the h scratch numbers from place j × h, row line j the w output numbers from place j × w"
unfoldable pub state_of : ℕ → ℕ → ℕ → ℕ → List ℤ → List ℤ → List ℤ → (Bool → ℕ → Bool) → State
state_of w h ck rk residuals scratch output done =
    record {
      ticket = ticket_of w h ck rk done;
      scratch = held h (done false) (number_at w h ck rk residuals false) scratch;
      output = held w (done true) (number_at w h ck rk residuals true) output;
    }

-- what each batch of a list gives back, and what the list leaves
unfoldable pub settled : ℕ → ℕ → ℕ → ℕ → List ℤ → List ℤ → List ℤ → List Batch → Run
settled w h ck rk residuals scratch output bs =
    record {
      answered = tab (length bs) (λ i. answer_to w h (covered w h bs i false) (nth bs i));
      tickets = tab (length bs) (λ i. ticket_of w h ck rk (covered w h bs (suc i)));
      state = state_of w h ck rk residuals scratch output (covered w h bs (length bs));
    }

-- "For every list of column and row batches of one block, whatever their starts, line counts, order and repeats, refused ones included,
-- run from its accepted opening"
abbrev pub Condition3 : Type 0
Condition3 =
    (w h ck rk : ℕ) (residuals scratch output : List ℤ) → open_answer w h ck rk residuals (length scratch) (length output) ≡ answers 0
    → (bs : List Batch) → run residuals (state_at (new_ticket w h ck rk) scratch output) bs ≡ settled w h ck rk residuals scratch output bs
