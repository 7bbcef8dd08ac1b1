-- Calls of both rooms on one plane. "For what follows, the first call is lent the plane record as made and each later one, of either room, the
-- record that the last call gave back".
use Rattle.std.specs.Prelude.{cond, List, [], ◌∷◌, ℕ, ℤ, length}
use Rattle.answer.specs.Answer.{Answer}
use Rattle.tickets.specs.declared.Batch.{Batch}
use Rattle.plane.specs.Plane.{new_tile, Planned, opening, closing}
use Rattle.plane.specs.Batch.{Kept, columns_in, rows_in}
use Rattle.plane.specs.declared.Plane.{Plane}
use Rattle.plane.specs.declared.Site.{Site}

-- a call, with the residuals and the scratch that it is lent: an opening, a closing, or a batch that names a room and a tile's number. Row
-- batches read no residuals
pub data Call : Type 0 where
  opens : (site : Site) (residuals scratch : List ℤ) → Call
  closes : (room n : ℕ) → Call
  batches : (room n : ℕ) (b : Batch) (residuals scratch : List ℤ) → Call

-- the plane record and the output that a call is lent besides
pub record Frame : Type 0 where
  pub plane : Plane
  pub output : List ℤ

abbrev pub frame_at : Plane → List ℤ → Frame
frame_at p output = record { plane = p; output = output }

-- what a call gives back, and what it leaves; scratch: the lent scratch afterwards
pub record Turn : Type 0 where
  pub answer : Answer
  pub frame : Frame
  pub scratch : List ℤ

-- an opening writes no buffer, nor does a closing
abbrev pub plan_turn : Frame → List ℤ → Planned → Turn
plan_turn s scratch k = record { answer = k.answer; frame = frame_at k.plane s.output; scratch = scratch }

abbrev pub column_turn : Frame → Kept → Turn
column_turn s k = record { answer = k.answer; frame = frame_at k.plane s.output; scratch = k.buffer }

abbrev pub row_turn : List ℤ → Kept → Turn
row_turn scratch k = record { answer = k.answer; frame = frame_at k.plane k.buffer; scratch = scratch }

-- by the calls' contracts
unfoldable pub turn : Frame → Call → Turn
turn s (opens site residuals scratch) = plan_turn s scratch (opening s.plane (new_tile site) residuals (length scratch) (length s.output))
turn s (closes room n) = plan_turn s [] (closing s.plane room n)
turn s (batches room n b residuals scratch) =
    cond b.row (row_turn scratch (rows_in s.plane room n b scratch s.output)) (column_turn s (columns_in s.plane room n b residuals scratch))

-- what a list of calls leaves that are lent one output, each as the last left it
unfoldable pub frame_after : Frame → List Call → Frame
frame_after s [] = s
frame_after s (c ∷ cs) = frame_after (turn s c).frame cs
