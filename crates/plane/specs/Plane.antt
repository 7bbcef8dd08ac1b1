-- A plane record: its tiles, the rules that it keeps, and what making, opening and closing give back.
use Rattle.std.specs.Prelude.{Bool, false, cond, not, ◌&&◌, ◌||◌, List, [], ◌∷◌, ℕ, zero, suc, ◌+◌, ◌*◌, ◌%◌, eqb, leb, ltb, ℤ, length, get_or, set, Option, Some, None, Result, Ok, Err}
use Rattle.laws.specs.Store.{tab}
use Rattle.laws.specs.Table.{every}
use Rattle.answer.specs.Answer.{Answer, answers, refuses, number_of, lowest, told}
use Rattle.answer.specs.declared.Refusal.{Refusal}
use Rattle.sizes.specs.Size.{is_side}
use Rattle.residual.specs.Residual.{residuals_ok}
use Rattle.block.specs.Call.{has_kinds}
use Rattle.tickets.specs.Batch.{out_of_order}
use Rattle.tickets.specs.Open.{new_ticket}
use Rattle.tickets.specs.declared.Ticket.{Ticket}
use Rattle.plane.specs.Places.{Area, overlap}
use Rattle.plane.specs.declared.Tile.{Tile}
use Rattle.plane.specs.declared.change.Change.{Change}
use Rattle.plane.specs.declared.Plane.{Plane}
use Rattle.plane.specs.declared.Planed.{Planed}
use Rattle.plane.specs.declared.Site.{Site}

-- ---- tiles

-- what a number holds that has no tile: zeros
abbrev pub no_tile : Tile
no_tile = record { opened = 0; room = 0; x = 0; y = 0; ticket = new_ticket 0 0 0 0 }

-- tile i of a plane, from 0 to 15
abbrev pub tile_at : Plane → ℕ → Tile
tile_at p i = get_or p.tiles i no_tile

-- a number has an open tile where `opened` isn't 0; else nothing that it holds is looked at
abbrev pub is_open : Tile → Bool
is_open t = not (eqb t.opened 0)

abbrev pub area_of : Tile → Area
area_of t = record { x = t.x; y = t.y; w = t.ticket.w; h = t.ticket.h }

abbrev pub site_of : ℕ → ℕ → ℕ → ℕ → ℕ → ℕ → ℕ → Site
site_of room x y w h ck rk = record { room = room; x = x; y = y; w = w; h = h; column_kind = ck; row_kind = rk }

-- the tile that a site asks for, with "a ticket with no marks"
abbrev pub new_tile : Site → Tile
new_tile s = record { opened = 1; room = s.room; x = s.x; y = s.y; ticket = new_ticket s.w s.h s.column_kind s.row_kind }

abbrev pub with_ticket : Tile → Ticket → Tile
with_ticket t k = record { opened = t.opened; room = t.room; x = t.x; y = t.y; ticket = k }

abbrev pub with_tile : Plane → ℕ → Tile → Plane
with_tile p n t = record { w = p.w; h = p.h; tiles = set p.tiles n t }

-- ---- rules

-- "a plane up to 256×256": not "a side outside 4 to 256"
unfoldable pub sides_ok : ℕ → ℕ → Bool
sides_ok w h = (leb 4 w && leb w 256) && (leb 4 h && leb h 256)

-- the rules of 1, 2 and 6
unfoldable pub ticket_ok : Ticket → Bool
ticket_ok t = (is_side t.w && is_side t.h) && (has_kinds t.w t.h t.column_kind t.row_kind && not (out_of_order t false))

-- the rules of 13 for one tile in a plane of these sides: not "outside the plane", not "misplaced" ("at places that are multiples of 4"), and of
-- room 0 or 1
unfoldable pub placed : ℕ → ℕ → Tile → Bool
placed w h t =
    (not (ltb w (t.x + t.ticket.w)) && not (ltb h (t.y + t.ticket.h))) && ((eqb (t.x % 4) 0 && eqb (t.y % 4) 0) && ltb t.room 2)

-- not "an open tile that breaks a rule of 1, 2, 6 or this one", alone
unfoldable pub tile_ok : ℕ → ℕ → Tile → Bool
tile_ok w h t = not (is_open t) || (ticket_ok t.ticket && placed w h t)

-- both are open, and they overlap
abbrev pub clash : Tile → Tile → Bool
clash s t = (is_open s && is_open t) && overlap (area_of s) (area_of t)

-- "Tiles in a plane never overlap."
unfoldable pub apart : Plane → Bool
apart p = every 16 (λ i. every i (λ j. not (clash (tile_at p i) (tile_at p j))))

-- 13 else: "a plane record with a side outside 4 to 256 or an open tile that breaks a rule of 1, 2, 6 or this one"
unfoldable pub plane_ok : Plane → Bool
plane_ok p = sides_ok p.w p.h && (every 16 (λ i. tile_ok p.w p.h (tile_at p i)) && apart p)

-- ---- answers

-- the smallest number from i on, of n, that f names; the number after them where there is none
unfoldable pub smallest : ℕ → ℕ → (ℕ → Bool) → ℕ
smallest zero i f = i
smallest (suc n) i f = cond (f i) i (smallest n (suc i) f)

-- "the smallest number from 0 to 15 that no open tile has"; 16 where there is none
unfoldable pub first_free : Plane → ℕ
first_free p = smallest 16 0 (λ i. not (is_open (tile_at p i)))

-- 13 in an opening: "a seventeenth", or a record that breaks a rule once the tile is in it. All open tiles of the lent record are in it too
unfoldable pub has_place : Plane → Tile → Bool
has_place p t = ltb (first_free p) 16 && plane_ok (with_tile p (first_free p) t)

-- "In openings 13 comes after 1 to 3 and before 4"; "3 when the output is shorter than the plane". ls and lo are the lengths of the scratch and
-- of the output
unfoldable pub open_answer : Plane → Tile → List ℤ → ℕ → ℕ → Answer
open_answer p t residuals ls lo =
    let w = t.ticket.w in
    let h = t.ticket.h in
    lowest
    ((not (is_side w && is_side h), 1) ∷
    (not (has_kinds w h t.ticket.column_kind t.ticket.row_kind), 2) ∷
    (ltb (length residuals) (w * h) || (ltb ls (w * h) || ltb lo (p.w * p.h)), 3) ∷
    (not (has_place p t), 13) ∷
    (not (residuals_ok (w * h) residuals), 4) ∷ [])
    (first_free p)

-- not "14 a tile not open for that room"
unfoldable pub open_for : Plane → ℕ → ℕ → Bool
open_for p room n = ltb n 16 && (is_open (tile_at p n) && eqb (tile_at p n).room room)

-- "elsewhere 13, then 14, come before 3"; 13 "in every call, a room that isn't 0 or 1"
unfoldable pub tile_answer : Plane → ℕ → ℕ → Answer
tile_answer p room n = lowest ((not (ltb room 2 && plane_ok p), 13) ∷ (not (open_for p room n), 14) ∷ []) n

-- "Making a plane gives 1 for a side outside 4 to 256"; made, it answers 0
unfoldable pub make_answer : ℕ → ℕ → Answer
make_answer w h = lowest ((not (sides_ok w h), 1) ∷ []) 0

-- a number, or 16 where there is none. No public contract mentions it
abbrev pub number_or_16 : Option ℕ → ℕ
number_or_16 (Some n) = n
number_or_16 None = 16

-- what a tile that a call names answers: its number n. No public contract mentions it
abbrev pub named_as : ℕ → Result Tile Refusal → Answer
named_as n (Ok t) = answers n
named_as n (Err why) = refuses (number_of why)

-- ---- what calls give back

-- "a refused call gives it back as lent"
abbrev pub plane_after : Answer → Plane → Plane → Plane
plane_after (answers n) new old = new
plane_after (refuses k) new old = old

-- an answer and a record, of a call that writes no buffer
pub record Planned : Type 0 where
  pub answer : Answer
  pub plane : Plane

abbrev pub planned : Planed → Planned
planned r = record { answer = told r.outcome; plane = r.plane }

-- and as the change of an accepted call makes them. No public contract mentions it
abbrev pub planned_by : Plane → Result Change Refusal → Planned
planned_by p (Ok c) = record { answer = answers c.answer; plane = with_tile p c.n c.tile }
planned_by p (Err why) = record { answer = refuses (number_of why); plane = p }

-- a plane with no tile open
unfoldable pub made : ℕ → ℕ → Plane
made w h = record { w = w; h = h; tiles = tab 16 (λ i. no_tile) }

-- refused, it gives a record of zeros, which every call refuses
unfoldable pub making : ℕ → ℕ → Planned
making w h = record { answer = make_answer w h; plane = plane_after (make_answer w h) (made w h) (made 0 0) }

-- "An opening answers the new tile's number"
unfoldable pub opening : Plane → Tile → List ℤ → ℕ → ℕ → Planned
opening p t residuals ls lo =
    record { answer = open_answer p t residuals ls lo; plane = plane_after (open_answer p t residuals ls lo) (with_tile p (first_free p) t) p }

-- "a closing the number it closed"
unfoldable pub closing : Plane → ℕ → ℕ → Planned
closing p room n = record { answer = tile_answer p room n; plane = plane_after (tile_answer p room n) (with_tile p n no_tile) p }
