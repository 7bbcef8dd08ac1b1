-- What a batch gives back: its answer, the ticket and the buffer that it writes ("Tickets", and numbers 1, 2, 3, 5 and 6).
use Rattle.std.specs.Prelude.{Bool, false, cond, not, ◌&&◌, ◌||◌, List, [], ◌∷◌, ℕ, ◌+◌, ◌*◌, ◌%◌, eqb, ltb, ℤ, length}
use Rattle.answer.specs.Answer.{Answer, answers, refuses, lowest, after, told}
use Rattle.sizes.specs.Size.{is_side}
use Rattle.block.specs.Call.{has_kinds}
use Rattle.block.specs.Lines.{column_lines, row_lines}
use Rattle.tickets.specs.Mark.{any_from, all_marked, with_lines}
use Rattle.tickets.specs.declared.Batch.{Batch}
use Rattle.tickets.specs.declared.Batched.{Batched}
use Rattle.tickets.specs.declared.Ticket.{Ticket}

-- a column batch or a row batch: its first line, and how many lines
abbrev pub batch_of : Bool → ℕ → ℕ → Batch
batch_of row start count = record { row = row; start = start; count = count }

-- how many lines a block has of the batch's kind: w column lines, h row lines
abbrev pub line_count : ℕ → ℕ → Bool → ℕ
line_count w h row = cond row h w

-- how many numbers such a line has: h a column line, w a row line
abbrev pub line_length : ℕ → ℕ → Bool → ℕ
line_length w h row = cond row w h

-- "1, 4 or 8 lines"
abbrev pub is_count : ℕ → Bool
is_count count = eqb count 1 || (eqb count 4 || eqb count 8)

-- number 5, for a line count of lines: "a batch isn't 1, 4 or 8 lines, a start of 4 or 8 lines isn't a multiple of 4, or its end passes the
-- line count"
unfoldable pub out_of_range : ℕ → ℕ → ℕ → Bool
out_of_range lines start count =
    not (eqb count 1 || ((eqb count 4 || eqb count 8) && eqb (start % 4) 0)) || ltb lines (start + count)

-- number 6: "a ticket has a mark past its line count; or has row marks with a column unmarked; or a row batch is asked with a
-- column unmarked"
unfoldable pub out_of_order : Ticket → Bool → Bool
out_of_order t row =
    any_from t.w t.columns
    || (any_from t.h t.rows || (not (all_marked t.w t.columns) && (any_from 0 t.rows || row)))

-- "batches 1, 2, 3, 5, 6", of a batch that is lent a buffer of length source to read and one of length target to write. short: a
-- further lent buffer is shorter than its documented part
unfoldable pub answer_unless : Bool → Ticket → Batch → ℕ → ℕ → Answer
answer_unless short t b source target =
    lowest
    ((not (is_side t.w && is_side t.h), 1) ∷
    (not (has_kinds t.w t.h t.column_kind t.row_kind), 2) ∷
    (short || (ltb source (t.w * t.h) || ltb target (t.w * t.h)), 3) ∷
    (out_of_range (line_count t.w t.h b.row) b.start b.count, 5) ∷
    (out_of_order t b.row, 6) ∷ [])
    b.count

-- a batch has no further buffer
abbrev pub batch_answer : Ticket → Batch → ℕ → ℕ → Answer
batch_answer t b source target = answer_unless false t b source target

-- "marks them" and "No batch takes a mark away"
unfoldable pub with_batch : Ticket → Batch → Ticket
with_batch t b =
    record {
      w = t.w;
      h = t.h;
      column_kind = t.column_kind;
      row_kind = t.row_kind;
      columns = cond b.row t.columns (with_lines t.columns b.start b.count);
      rows = cond b.row (with_lines t.rows b.start b.count) t.rows;
    }

-- "An accepted column batch writes its scratch lines"; "an accepted row batch writes its scaled output lines"
unfoldable pub lines_of : Ticket → Batch → List ℤ → List ℤ → List ℤ
lines_of t b source target =
    cond b.row
    (row_lines t.w t.h t.row_kind source b.start b.count target)
    (column_lines t.w t.h t.column_kind source b.start b.count target)

-- an answer, a ticket and the buffer that a call writes
pub record Given : Type 0 where
  pub answer : Answer
  pub ticket : Ticket
  pub buffer : List ℤ

abbrev pub gives : Batched → List ℤ → Given
gives r buffer = record { answer = told r.outcome; ticket = r.ticket; buffer = buffer }

-- what a call with this answer leaves of a ticket: "A refusal .. leaves the ticket as given"
abbrev pub ticket_after : Answer → Ticket → Ticket → Ticket
ticket_after (answers n) new old = new
ticket_after (refuses k) new old = old

-- a batch that reads the buffer source and writes the buffer target: residuals and scratch for columns, scratch and output for rows
unfoldable pub batch : Ticket → Batch → List ℤ → List ℤ → Given
batch t b source target =
    record {
      answer = batch_answer t b (length source) (length target);
      ticket = ticket_after (batch_answer t b (length source) (length target)) (with_batch t b) t;
      buffer = after (batch_answer t b (length source) (length target)) (lines_of t b source target) target;
    }
