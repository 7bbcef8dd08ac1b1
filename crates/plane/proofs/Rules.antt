-- A record that keeps the rules, by what each rule says. Assumes nothing.
use mathlib.Core.Path.{◌≡◌, sym, ap, ap₂, ◌∙◌}
use mathlib.Core.Bool.{Bool, true, false, not, and_comm, ◌&&◌}
use mathlib.Core.Logic.{◌≢◌, ⊎_elim}
use Prim.Native.Nat.{ℕ, ◌+◌, ◌%◌, ◌<◌, ◌≤◌}
use native.Mathlib.Omega.{arith}
use borrow.Author.Tests.{not-true, leb-true, ltb-true, ltb-false}
use lib.Dec.{eqb, leb, ltb}
use Rattle.laws.specs.Table.{every}
use Rattle.laws.proofs.Bool.{both, nand, implies, implied}
use Rattle.laws.proofs.Every.{every_all, every_each}
use Rattle.laws.proofs.Place.{split}
use Rattle.sizes.specs.Size.{is_side}
use Rattle.block.specs.Call.{has_kinds}
use Rattle.tickets.specs.Batch.{out_of_order}
use Rattle.plane.specs.Places.{Area, overlap}
use Rattle.plane.specs.Plane.{tile_at, is_open, area_of, sides_ok, ticket_ok, placed, tile_ok, clash, apart, plane_ok}
use Rattle.plane.specs.declared.Plane.{Plane}
use Rattle.plane.specs.declared.Tile.{Tile}

-- ---- one tile

pub record TileRules (w h : ℕ) (t : Tile) : Type 0 where
  pub ticket : ticket_ok t.ticket ≡ true
  pub in_plane : placed w h t ≡ true

-- what they say of its sides and its place
pub record Lying (w h : ℕ) (t : Tile) : Type 0 where
  pub side_w : is_side t.ticket.w ≡ true
  pub side_h : is_side t.ticket.h ≡ true
  pub kinds : has_kinds t.ticket.w t.ticket.h t.ticket.column_kind t.ticket.row_kind ≡ true
  pub order : out_of_order t.ticket false ≡ false
  pub across : t.x + t.ticket.w ≤ w
  pub down : t.y + t.ticket.h ≤ h
  pub few : t.room < 2

pub lying : {w h : ℕ} {t : Tile} → TileRules w h t → Lying w h t
unfolding ticket_ok placed
lying {w} {h} {t} k =
    let a = both (is_side t.ticket.w && is_side t.ticket.h) _ k.ticket in
    let s = both (is_side t.ticket.w) (is_side t.ticket.h) a.0 in
    let o = both (has_kinds t.ticket.w t.ticket.h t.ticket.column_kind t.ticket.row_kind) _ a.1 in
    let b = both (not (ltb w (t.x + t.ticket.w)) && not (ltb h (t.y + t.ticket.h))) _ k.in_plane in
    let c = both (not (ltb w (t.x + t.ticket.w))) (not (ltb h (t.y + t.ticket.h))) b.0 in
    record {
      side_w = s.0;
      side_h = s.1;
      kinds = o.0;
      order = not-true _ o.1;
      across = ltb-false w (t.x + t.ticket.w) (not-true _ c.0);
      down = ltb-false h (t.y + t.ticket.h) (not-true _ c.1);
      few = ltb-true t.room 2 (both (eqb (t.x % 4) 0 && eqb (t.y % 4) 0) (ltb t.room 2) b.1).1;
    }

pub tile_rules : (w h : ℕ) (t : Tile) → tile_ok w h t ≡ true → is_open t ≡ true → TileRules w h t
unfolding tile_ok
tile_rules w h t e o =
    let k = both (ticket_ok t.ticket) (placed w h t) (implied (is_open t) (ticket_ok t.ticket && placed w h t) e o) in
    record { ticket = k.0; in_plane = k.1 }

pub tile_ok_lem : (w h : ℕ) (t : Tile) → (is_open t ≡ true → TileRules w h t) → tile_ok w h t ≡ true
unfolding tile_ok
tile_ok_lem w h t f = implies (is_open t) (ticket_ok t.ticket && placed w h t) (λ o. let k = f o in ap₂ ◌&&◌ k.ticket k.in_plane)

-- ---- sides

pub record Sides (w h : ℕ) : Type 0 where
  pub some : 4 ≤ w
  pub wide : w ≤ 256
  pub high : h ≤ 256

pub sides : {w h : ℕ} → sides_ok w h ≡ true → Sides w h
unfolding sides_ok
sides {w} {h} e =
    let s = both (leb 4 w && leb w 256) (leb 4 h && leb h 256) e in
    let a = both (leb 4 w) (leb w 256) s.0 in
    record { some = leb-true 4 w a.0; wide = leb-true w 256 a.1; high = leb-true h 256 (both (leb 4 h) (leb h 256) s.1).1 }

-- ---- a whole record

pub record Rules (p : Plane) : Type 0 where
  pub sides : sides_ok p.w p.h ≡ true
  pub each : (i : ℕ) → i < 16 → is_open (tile_at p i) ≡ true → TileRules p.w p.h (tile_at p i)
  pub apart : (i j : ℕ) → i < 16 → j < 16 → i ≢ j → is_open (tile_at p i) ≡ true → is_open (tile_at p j) ≡ true
      → overlap (area_of (tile_at p i)) (area_of (tile_at p j)) ≡ false

pub overlap_sym : (a b : Area) → overlap a b ≡ overlap b a
unfolding overlap
overlap_sym a b = go (ltb b.x (a.x + a.w)) (ltb a.x (b.x + b.w)) (ltb b.y (a.y + a.h)) (ltb a.y (b.y + b.h))
  where
    go : (x y u v : Bool) → ((x && y) && (u && v)) ≡ ((y && x) && (v && u))
    go x y u v = ap₂ ◌&&◌ (and_comm x y) (and_comm u v)

module _ (p : Plane) where
  -- of two open tiles, the one of the greater number first
  below : apart p ≡ true → (i j : ℕ) → i < 16 → j < i → is_open (tile_at p i) ≡ true → is_open (tile_at p j) ≡ true
      → overlap (area_of (tile_at p i)) (area_of (tile_at p j)) ≡ false
  unfolding apart
  below e i j b l o u =
      let row = every_each 16 (λ i. every i (λ j. not (clash (tile_at p i) (tile_at p j)))) e i b in
      let pair = every_each i (λ j. not (clash (tile_at p i) (tile_at p j))) row j l in
      sym (ap (λ (x : Bool). x && overlap (area_of (tile_at p i)) (area_of (tile_at p j))) (ap₂ ◌&&◌ o u)) ∙ not-true _ pair

  apart_rule : apart p ≡ true → (i j : ℕ) → i < 16 → j < 16 → i ≢ j → is_open (tile_at p i) ≡ true → is_open (tile_at p j) ≡ true
      → overlap (area_of (tile_at p i)) (area_of (tile_at p j)) ≡ false
  apart_rule e i j b c d o u =
      ⊎_elim
      (λ l. overlap_sym (area_of (tile_at p i)) (area_of (tile_at p j)) ∙ below e j i c l u o)
      (λ l. below e i j b (other l) o u)
      (split i j)
    where
      other : j ≤ i → j < i
      other l = ⊎_elim (λ x. x) (λ x. absurd (d (omega arith))) (split j i)

  pub rules : plane_ok p ≡ true → Rules p
  unfolding plane_ok
  rules e =
      let a = both (sides_ok p.w p.h) _ e in
      let b = both (every 16 (λ i. tile_ok p.w p.h (tile_at p i))) (apart p) a.1 in
      record {
        sides = a.0;
        each = λ i l o. tile_rules p.w p.h (tile_at p i) (every_each 16 (λ i. tile_ok p.w p.h (tile_at p i)) b.0 i l) o;
        apart = apart_rule b.1;
      }

  pub rules_ok : Rules p → plane_ok p ≡ true
  unfolding plane_ok apart
  rules_ok k =
      ap₂ ◌&&◌ k.sides
      (ap₂ ◌&&◌
      (every_all 16 (λ i. tile_ok p.w p.h (tile_at p i)) (λ i l. tile_ok_lem p.w p.h (tile_at p i) (k.each i l)))
      (every_all 16 (λ i. every i (λ j. not (clash (tile_at p i) (tile_at p j))))
      (λ i l.
      every_all i (λ j. not (clash (tile_at p i) (tile_at p j)))
      (λ j m.
      nand (is_open (tile_at p i) && is_open (tile_at p j)) (overlap (area_of (tile_at p i)) (area_of (tile_at p j)))
      (λ o.
      let b = both (is_open (tile_at p i)) (is_open (tile_at p j)) o in
      k.apart i j l (omega arith) (λ e. omega arith) b.0 b.1)))))
