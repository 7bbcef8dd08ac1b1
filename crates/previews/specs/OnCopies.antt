-- "Its numbers equal the lines that the real batch would write if run on copies of them, and it refuses in the same cases." A preview beside
-- its batch, place by place.
use Rattle.std.specs.Prelude.{◌≡◌, true, false, List, ℕ, ◌+◌, ◌*◌, ◌≤◌, ◌<◌, min, ℤ, pos, length, get_or}
use Rattle.answer.specs.Answer.{Answer, answers, refuses}
use Rattle.tickets.specs.Batch.{line_length, batch}
use Rattle.tickets.specs.declared.Batch.{Batch}
use Rattle.tickets.specs.declared.Ticket.{Ticket}
use Rattle.previews.specs.Preview.{is_short, preview_of}

-- the answer to a batch where a buffer more is short: 3, or the batch's own number where that is lower
abbrev pub short_too : Answer → Answer
short_too (answers n) = refuses 3
short_too (refuses k) = refuses (min k 3)

-- one preview, and the batch that it shows, lent the same buffers
pub record BesideBatch (t : Ticket) (b : Batch) (source target room : List ℤ) : Type 0 where
  pub same_answer : is_short b.count (line_length t.w t.h b.row) (length room) ≡ false
      → (preview_of t b source target room).answer ≡ (batch t b source target).answer
  pub short_answer : is_short b.count (line_length t.w t.h b.row) (length room) ≡ true
      → (preview_of t b source target room).answer ≡ short_too (batch t b source target).answer
  -- accepted, line i of the preview is line start + i of the buffer that the batch writes
  pub lines : (m i f : ℕ) → (preview_of t b source target room).answer ≡ answers m → i < b.count → f < line_length t.w t.h b.row
      → get_or (preview_of t b source target room).shown (i * line_length t.w t.h b.row + f) (pos 0)
      ≡ get_or (batch t b source target).buffer ((b.start + i) * line_length t.w t.h b.row + f) (pos 0)
  -- and every number past its lines is kept
  pub rest : (m p : ℕ) → (preview_of t b source target room).answer ≡ answers m → b.count * line_length t.w t.h b.row ≤ p
      → get_or (preview_of t b source target room).shown p (pos 0) ≡ get_or room p (pos 0)
  pub long : length (preview_of t b source target room).shown ≡ length room
  pub refused : (k : ℕ) → (preview_of t b source target room).answer ≡ refuses k → (preview_of t b source target room).shown ≡ room

-- for every ticket, every batch and every buffer, a ticket that nobody opened among them
abbrev pub OnCopies : Type 0
OnCopies = (t : Ticket) (b : Batch) (source target room : List ℤ) → BesideBatch t b source target room
