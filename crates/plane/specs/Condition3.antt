-- "Condition 3 holds for each tile while it is open, its batches being those that name its room and number, its places in the plane, row by row,
-- being its output, and the plane record carrying its ticket."
use Rattle.std.specs.Prelude.{◌≡◌, Bool, true, false, cond, not, ◌&&◌, List, [], ◌∷◌, ℕ, eqb, ℤ}
use Rattle.answer.specs.Answer.{answers}
use Rattle.tickets.specs.declared.Batch.{Batch}
use Rattle.tickets.specs.Run.{State, state_at, Run}
use Rattle.tickets.specs.Condition3.{settled}
use Rattle.plane.specs.Places.{tile_of}
use Rattle.plane.specs.Plane.{tile_at, area_of, new_tile, sides_ok, made}
use Rattle.plane.specs.Calls.{Call, opens, closes, batches, Frame, frame_at, Turn, turn, frame_after}
use Rattle.plane.specs.declared.Site.{Site}

-- the call is a batch that names the room and number
abbrev pub names : ℕ → ℕ → Call → Bool
names room n (opens site residuals scratch) = false
names room n (closes r m) = false
names room n (batches r m b residuals scratch) = eqb r room && eqb m n

abbrev pub add_batch : Call → List Batch → List Batch
add_batch (opens site residuals scratch) bs = bs
add_batch (closes r m) bs = bs
add_batch (batches r m b residuals scratch) bs = b ∷ bs

-- a tile's batches in a list of calls
unfoldable pub tile_batches : ℕ → ℕ → List Call → List Batch
tile_batches room n [] = []
tile_batches room n (c ∷ cs) = cond (names room n c) (add_batch c (tile_batches room n cs)) (tile_batches room n cs)

-- "while it is open": no call of the list closes it
abbrev pub closes_it : ℕ → ℕ → Call → Bool
closes_it room n (opens site residuals scratch) = false
closes_it room n (closes r m) = eqb r room && eqb m n
closes_it room n (batches r m b residuals scratch) = false

unfoldable pub stays_open : ℕ → ℕ → List Call → Bool
stays_open room n [] = true
stays_open room n (c ∷ cs) = not (closes_it room n c) && stays_open room n cs

-- what is a tile's own: its ticket in the record, its scratch, and its places in the plane
abbrev pub tile_state : Frame → List ℤ → ℕ → State
tile_state s scratch n = state_at (tile_at s.plane n).ticket scratch (tile_of s.plane.w (area_of (tile_at s.plane n)) s.output)

-- "all are lent the block's own buffers"
abbrev pub lend : List ℤ → List ℤ → Call → Call
lend residuals scratch (opens site res scr) = opens site res scr
lend residuals scratch (closes r m) = closes r m
lend residuals scratch (batches r m b res scr) = batches r m b residuals scratch

abbrev pub add_turn : Turn → ℕ → Run → Run
add_turn t n r = record { answered = t.answer ∷ r.answered; tickets = (tile_at t.frame.plane n).ticket ∷ r.tickets; state = r.state }

-- what a tile's batches in a list of calls give back, and what the list leaves of the tile. Its batches are lent its residuals and its scratch as
-- the last of them left it; every other call is lent whatever it names
unfoldable pub tile_run : ℕ → ℕ → List ℤ → List ℤ → Frame → List Call → Run
tile_run room n residuals scratch s [] = record { answered = []; tickets = []; state = tile_state s scratch n }
tile_run room n residuals scratch s (c ∷ cs) =
    let own = turn s (lend residuals scratch c) in
    cond (names room n c) (add_turn own n (tile_run room n residuals own.scratch own.frame cs))
    (tile_run room n residuals scratch (turn s c).frame cs)

-- after any calls of both rooms an opening is accepted and answers n; then come any calls of both rooms that don't close its tile
abbrev pub TileCondition3 : Type 0
TileCondition3 =
    (width height : ℕ) (output : List ℤ) → sides_ok width height ≡ true → (before : List Call) (site : Site) (residuals scratch : List ℤ) (n : ℕ) →
    let s = frame_after (frame_at (made width height) output) before in
    let opened = turn s (opens site residuals scratch) in
    opened.answer ≡ answers n → (cs : List Call) → stays_open site.room n cs ≡ true
    → tile_run site.room n residuals scratch opened.frame cs
    ≡ settled site.w site.h site.column_kind site.row_kind residuals scratch (tile_of width (area_of (new_tile site)) s.output)
    (tile_batches site.room n cs)
