-- What holds of the plane record and of the output, whatever the calls.
use Rattle.std.specs.Prelude.{◌≡◌, Bool, true, false, ◌≢◌, List, ℕ, ◌<◌, ℤ, pos, length, get_or}
use Rattle.answer.specs.Answer.{answers}
use Rattle.plane.specs.Places.{overlap, is_in}
use Rattle.plane.specs.Plane.{tile_at, is_open, area_of, new_tile, with_tile, sides_ok, ticket_ok, placed, plane_ok, first_free, has_place, made, closing}
use Rattle.plane.specs.Calls.{Call, opens, closes, batches, frame_at, Frame, turn, frame_after}
use Rattle.plane.specs.declared.Plane.{Plane}
use Rattle.plane.specs.declared.Site.{Site}
use Rattle.plane.specs.declared.Tile.{Tile}

-- every record that calls leave keeps the rules, and the plane's sides
abbrev pub Reachable : Type 0
Reachable =
    (w h : ℕ) (output : List ℤ) → sides_ok w h ≡ true → (cs : List Call) →
    let p = (frame_after (frame_at (made w h) output) cs).plane in (plane_ok p ≡ true) × (p.w ≡ w) × (p.h ≡ h)

-- "Tiles in a plane never overlap": no place of the plane is in two
abbrev pub NeverOverlap : Type 0
NeverOverlap =
    (p : Plane) → plane_ok p ≡ true → (i j : ℕ) → i < 16 → j < 16 → i ≢ j → is_open (tile_at p i) ≡ true → is_open (tile_at p j) ≡ true → (q : ℕ)
    → is_in p.w (area_of (tile_at p i)) q ≡ true → is_in p.w (area_of (tile_at p j)) q ≡ false

-- what an opening that is not refused with 13 has found: no "seventeenth", a lent record that breaks no rule, and a tile that isn't "outside the
-- plane, misplaced, overlapping", nor of a room that isn't 0 or 1
pub record Placing (p : Plane) (t : Tile) : Type 0 where
  pub free : first_free p < 16
  pub valid : plane_ok p ≡ true
  pub in_plane : placed p.w p.h t ≡ true
  pub clear : (i : ℕ) → i < 16 → is_open (tile_at p i) ≡ true → overlap (area_of (tile_at p i)) (area_of t) ≡ false

-- that one test says all of it. A record has 16 tiles; a new tile's ticket has passed 1 and 2 and has no marks
abbrev pub PlaceFound : Type 0
PlaceFound =
    (p : Plane) (t : Tile) → length p.tiles ≡ 16 → is_open t ≡ true → ticket_ok t.ticket ≡ true
    → (has_place p t ≡ true → Placing p t) × (Placing p t → has_place p t ≡ true)

-- "a closed place can be opened again": once a tile is closed there is a place for one of the same area, by either room
abbrev pub Reopened : Type 0
Reopened =
    (p : Plane) (room n m : ℕ) → length p.tiles ≡ 16 → (closing p room n).answer ≡ answers m → (t : Tile) → is_open t ≡ true
    → ticket_ok t.ticket ≡ true → t.room < 2 → area_of t ≡ area_of (tile_at p n) → has_place (closing p room n).plane t ≡ true

-- "A new tile gets the smallest number from 0 to 15 that no open tile has"
pub record Smallest (p : Plane) (n : ℕ) : Type 0 where
  pub small : n < 16
  pub free : is_open (tile_at p n) ≡ false
  pub least : (i : ℕ) → i < n → is_open (tile_at p i) ≡ true

-- and that number's tile is all that an opening changes
abbrev pub SmallestFree : Type 0
SmallestFree =
    (s : Frame) (site : Site) (residuals scratch : List ℤ) (n : ℕ) →
    let r = turn s (opens site residuals scratch) in
    r.answer ≡ answers n → Smallest s.plane n × (r.frame ≡ frame_at (with_tile s.plane n (new_tile site)) s.output)

-- place q of the plane is one of the tile's that the call names; an opening and a closing have none
abbrev pub is_own : Plane → Call → ℕ → Bool
is_own p (opens site residuals scratch) q = false
is_own p (closes room n) q = false
is_own p (batches room n b residuals scratch) q = is_in p.w (area_of (tile_at p n)) q

-- a call changes no place of the output outside its own tile, whatever record it is lent
abbrev pub OutsideKept : Type 0
OutsideKept =
    (s : Frame) (c : Call) →
    let after = (turn s c).frame.output in
    (length after ≡ length s.output) × ((q : ℕ) → is_own s.plane c q ≡ false → get_or after q (pos 0) ≡ get_or s.output q (pos 0))
