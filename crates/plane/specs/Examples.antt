-- What condition 3 and isolation, as they are stated, say of a few calls: a premise that nothing meets would leave them saying nothing. The plane
-- is 8 × 4; room 0 has its left half, room 1 its right.
use Rattle.std.specs.Prelude.{◌≡◌, true, false, List, [], ◌∷◌, ℕ, ℤ, pos, replicate}
use Rattle.answer.specs.Answer.{answers, refuses}
use Rattle.tickets.specs.Batch.{batch_of}
use Rattle.plane.specs.Plane.{site_of, made}
use Rattle.plane.specs.Calls.{Call, opens, closes, batches, frame_at, turn}
use Rattle.plane.specs.Condition3.{tile_run, TileCondition3}
use Rattle.plane.specs.Isolation.{Lent, shown_to, Isolation}
use Rattle.plane.specs.declared.Site.{Site}

abbrev pub copies : ℕ → ℕ → List ℤ
copies n z = replicate n (pos z)

abbrev pub half_at : ℕ → ℕ → Site
half_at room x = site_of room x 0 4 4 0 0

-- a batch of 4 lines of tile 0, of a room that lends sixteen zeros twice
abbrev pub columns : ℕ → Call
columns room = batches room 0 (batch_of false 0 4) (copies 16 0) (copies 16 0)

abbrev pub rows : ℕ → Call
rows room = batches room 0 (batch_of true 0 4) (copies 16 0) (copies 16 0)

-- after room 0 has opened tile 0: its rows too early, room 1's opening, room 1 asking for tile 0, the columns, room 1 closing tile 0, the rows
abbrev pub list : List Call
list = rows 0 ∷ opens (half_at 1 4) (copies 16 0) (copies 16 0) ∷ columns 1 ∷ columns 0 ∷ closes 1 0 ∷ rows 0 ∷ []

-- from the statement alone, whatever its proof
abbrev pub TileAnswers : Type 0
TileAnswers =
    TileCondition3
    → (tile_run 0 0 (copies 16 0) (copies 16 0) (turn (frame_at (made 8 4) (copies 32 0)) (opens (half_at 0 0) (copies 16 0) (copies 16 0))).frame list).answered
    ≡ refuses 6 ∷ answers 4 ∷ answers 4 ∷ []

abbrev pub lent : Call → Lent
lent c = record { call = c; output = copies 32 0 }

-- room 0 opens a tile and runs its columns in both lists. Room 1 opens its half in both: in one with zeros, after it has asked for room 0's tile in
-- vain; in the other with ones and a longer scratch, after an opening that is refused, and it runs a batch there
abbrev pub quiet : List Lent
quiet = lent (opens (half_at 0 0) (copies 16 0) (copies 16 0)) ∷ lent (columns 1) ∷ lent (opens (half_at 1 4) (copies 16 0) (copies 16 0)) ∷ lent (columns 0) ∷ []

abbrev pub busy : List Lent
busy =
    lent (opens (half_at 0 0) (copies 16 0) (copies 16 0)) ∷
    lent (opens (half_at 1 0) (copies 16 1) (copies 20 1)) ∷
    lent (opens (half_at 1 4) (copies 16 1) (copies 20 1)) ∷
    lent (batches 1 1 (batch_of false 0 4) (copies 16 1) (copies 20 1)) ∷
    lent (columns 0) ∷ []

abbrev pub SameShown : Type 0
SameShown = Isolation → shown_to 0 (made 8 4) quiet ≡ shown_to 0 (made 8 4) busy
