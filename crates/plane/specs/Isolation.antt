-- Two rooms on one plane: "that room's answers to its batches, tickets and tile numbers don't depend on the other room's batches, its residuals
-- or its scratch".
use Rattle.std.specs.Prelude.{◌≡◌, true, cond, ◌&&◌, List, [], ◌∷◌, ◌++◌, ℕ, eqb, ℤ, length}
use Rattle.laws.specs.Store.{tab}
use Rattle.answer.specs.Answer.{Answer, answers, refuses}
use Rattle.plane.specs.Plane.{tile_at, is_open, no_tile, sides_ok, made}
use Rattle.plane.specs.Calls.{Call, opens, closes, batches, frame_at, Turn, turn}
use Rattle.plane.specs.declared.Plane.{Plane}
use Rattle.plane.specs.declared.Site.{Site}
use Rattle.plane.specs.declared.Tile.{Tile}

-- a call, and the output that it is lent: not always the same
pub record Lent : Type 0 where
  pub call : Call
  pub output : List ℤ

abbrev pub next : Plane → Lent → Turn
next p l = turn (frame_at p l.output) l.call

abbrev pub room_of : Call → ℕ
room_of (opens site residuals scratch) = site.room
room_of (closes room n) = room
room_of (batches room n b residuals scratch) = room

-- what of a list is the same for a room: its own calls, with their residuals and scratch, and the lengths of their outputs; and of the other
-- room's accepted openings and closings what they do to the record: the room, the place, the sides and kinds of the tile, and its number
pub data Deed : Type 0 where
  own : Call → ℕ → Deed
  opened : Site → Deed
  closed : ℕ → Deed

-- a call of the other room: a batch does nothing that counts, nor does a refused call
abbrev pub deed_of : Call → Answer → List Deed
deed_of (opens site residuals scratch) (answers n) = opened site ∷ []
deed_of (opens site residuals scratch) (refuses k) = []
deed_of (closes room n) (answers m) = closed n ∷ []
deed_of (closes room n) (refuses k) = []
deed_of (batches room n b residuals scratch) a = []

-- "the same accepted openings and closings, and one room's own calls, residuals, scratch and lent output lengths, all in the same order": room
-- r's of a list that is run from the record p
unfoldable pub deeds_for : ℕ → Plane → List Lent → List Deed
deeds_for r p [] = []
deeds_for r p (l ∷ ls) =
    cond (eqb (room_of l.call) r) (own l.call (length l.output) ∷ []) (deed_of l.call (next p l).answer)
    ++ deeds_for r (next p l).frame.plane ls

-- a room's open tiles by number, with their tickets
unfoldable pub tiles_for : ℕ → Plane → List Tile
tiles_for r p = tab 16 (λ i. cond (is_open (tile_at p i) && eqb (tile_at p i).room r) (tile_at p i) no_tile)

-- what a room has of one of its calls: the answer, which is a tile's number to an opening and to a closing, and its tiles afterwards
pub record Shown : Type 0 where
  pub answer : Answer
  pub tiles : List Tile

abbrev pub shown : ℕ → Turn → Shown
shown r t = record { answer = t.answer; tiles = tiles_for r t.frame.plane }

-- and of all its calls in a list
unfoldable pub shown_to : ℕ → Plane → List Lent → List Shown
shown_to r p [] = []
shown_to r p (l ∷ ls) =
    cond (eqb (room_of l.call) r) (shown r (next p l) ∷ shown_to r (next p l).frame.plane ls) (shown_to r (next p l).frame.plane ls)

-- "Given the same plane", and the same deeds, a room is shown the same
abbrev pub Isolation : Type 0
Isolation =
    (w h r : ℕ) → sides_ok w h ≡ true → (ls ms : List Lent) → deeds_for r (made w h) ls ≡ deeds_for r (made w h) ms
    → shown_to r (made w h) ls ≡ shown_to r (made w h) ms
