-- What the answers to a call tell of the lent record. Assumes nothing.
use mathlib.Core.Path.{◌≡◌}
use mathlib.Core.Bool.{true, false}
use mathlib.Core.List.{List}
use Prim.Native.Nat.{ℕ, ◌*◌, ◌<◌, ◌≤◌}
use borrow.Author.Tests.{not-false, eqb-true, ltb-true, ltb-false}
use lib.Dec.{eqb, ltb}
use lib.IntN.{ℤ}
use lib.ListN.{length}
use Rattle.laws.proofs.Bool.{both, neither}
use Rattle.answer.specs.Answer.{answers}
use Rattle.answer.proofs.Answer.{passed, the_answer}
use Rattle.sizes.specs.Size.{is_side}
use Rattle.residual.specs.Residual.{residuals_ok}
use Rattle.block.specs.Call.{has_kinds}
use Rattle.plane.specs.Plane.{tile_at, is_open, with_tile, plane_ok, first_free, has_place, open_answer, open_for, tile_answer}
use Rattle.plane.specs.declared.Plane.{Plane}
use Rattle.plane.specs.declared.Tile.{Tile}

-- a call that names a room and a tile, past 13 and 14
pub record TileKnown (p : Plane) (room n m : ℕ) : Type 0 where
  pub number : m ≡ n
  pub valid : plane_ok p ≡ true
  pub small : n < 16
  pub is_open_lem : is_open (tile_at p n) ≡ true
  pub room_is : (tile_at p n).room ≡ room

pub tile_known : (p : Plane) (room n m : ℕ) → answers m ≡ tile_answer p room n → TileKnown p room n m
unfolding tile_answer open_for
tile_known p room n m e =
    let a = passed _ 13 _ _ m e in
    let b = passed _ 14 _ _ m a.1 in
    let c = both (ltb n 16) _ (not-false _ b.0) in
    let d = both (is_open (tile_at p n)) (eqb (tile_at p n).room room) c.1 in
    record {
      number = the_answer n m b.1;
      valid = (both (ltb room 2) (plane_ok p) (not-false _ a.0)).1;
      small = ltb-true n 16 c.0;
      is_open_lem = d.0;
      room_is = eqb-true (tile_at p n).room room d.1;
    }

-- an accepted opening
pub record OpenKnown (p : Plane) (t : Tile) (residuals : List ℤ) (ls lo m : ℕ) : Type 0 where
  pub number : m ≡ first_free p
  pub small : first_free p < 16
  pub wide : is_side t.ticket.w ≡ true
  pub high : is_side t.ticket.h ≡ true
  pub kinds : has_kinds t.ticket.w t.ticket.h t.ticket.column_kind t.ticket.row_kind ≡ true
  pub residuals_long : ltb (length residuals) (t.ticket.w * t.ticket.h) ≡ false
  pub scratch_long : ltb ls (t.ticket.w * t.ticket.h) ≡ false
  pub output_long : p.w * p.h ≤ lo
  pub valid : plane_ok (with_tile p (first_free p) t) ≡ true
  pub in_limit_lem : residuals_ok (t.ticket.w * t.ticket.h) residuals ≡ true

pub open_known : (p : Plane) (t : Tile) (residuals : List ℤ) (ls lo m : ℕ) → answers m ≡ open_answer p t residuals ls lo
    → OpenKnown p t residuals ls lo m
unfolding open_answer has_place
open_known p t residuals ls lo m e =
    let s1 = passed _ 1 _ _ m e in
    let s2 = passed _ 2 _ _ m s1.1 in
    let s3 = passed _ 3 _ _ m s2.1 in
    let s13 = passed _ 13 _ _ m s3.1 in
    let s4 = passed _ 4 _ _ m s13.1 in
    let sides = both (is_side t.ticket.w) (is_side t.ticket.h) (not-false _ s1.0) in
    let l = neither (ltb (length residuals) (t.ticket.w * t.ticket.h)) _ s3.0 in
    let l' = neither (ltb ls (t.ticket.w * t.ticket.h)) _ l.1 in
    let q = both (ltb (first_free p) 16) (plane_ok (with_tile p (first_free p) t)) (not-false _ s13.0) in
    record {
      number = the_answer (first_free p) m s4.1;
      small = ltb-true (first_free p) 16 q.0;
      wide = sides.0;
      high = sides.1;
      kinds = not-false _ s2.0;
      residuals_long = l.0;
      scratch_long = l'.0;
      output_long = ltb-false lo (p.w * p.h) l'.1;
      valid = q.1;
      in_limit_lem = not-false _ s4.0;
    }
