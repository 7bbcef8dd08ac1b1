-- A preview of a batch: its answer, and the buffer that is lent for it afterwards. It leaves the ticket and the work buffers alone: they are
-- lent to be read.
use Rattle.std.specs.Prelude.{Bool, ◌&&◌, List, ℕ, ◌+◌, ◌*◌, ltb, ℤ, pos, length, get_or}
use Rattle.laws.specs.Store.{laid}
use Rattle.answer.specs.Answer.{Outcome, Answer, after, told}
use Rattle.tickets.specs.Batch.{is_count, line_length, answer_unless, batch}
use Rattle.tickets.specs.declared.Batch.{Batch}
use Rattle.tickets.specs.declared.Ticket.{Ticket}

-- "Number 3 also when the preview buffer is short, judged only for 1, 4 or 8 lines": a buffer of length room for lines of n numbers
unfoldable pub is_short : ℕ → ℕ → ℕ → Bool
is_short count n room = is_count count && ltb room (count * n)

-- "a separate buffer of lines × side numbers (h for columns, w for rows)"; "otherwise the batch's checks and order"
abbrev pub preview_answer : Ticket → Batch → ℕ → ℕ → ℕ → Answer
preview_answer t b source target room = answer_unless (is_short b.count (line_length t.w t.h b.row) room) t b source target

-- "the lines that the real batch would write if run on copies of them", in front of the buffer room: number p of these lines is number p
-- of the batch's lines in the buffer that it writes
abbrev pub lines_shown : Ticket → Batch → List ℤ → List ℤ → List ℤ → List ℤ
lines_shown t b source target room =
    let n = line_length t.w t.h b.row in
    laid room 0 (b.count * n) (λ p. get_or (batch t b source target).buffer (b.start * n + p) (pos 0))

-- an answer and the preview buffer
pub record Preview : Type 0 where
  pub answer : Answer
  pub shown : List ℤ

abbrev pub shows : Outcome → List ℤ → Preview
shows r shown = record { answer = told r; shown = shown }

-- a preview, into the buffer room, of a batch that is lent the buffers source and target
unfoldable pub preview_of : Ticket → Batch → List ℤ → List ℤ → List ℤ → Preview
preview_of t b source target room =
    record {
      answer = preview_answer t b (length source) (length target) (length room);
      shown = after (preview_answer t b (length source) (length target) (length room)) (lines_shown t b source target room) room;
    }
