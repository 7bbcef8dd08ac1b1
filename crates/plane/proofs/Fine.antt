-- A record with a tile put in it, and records that keep the rules: a record as made does, and closing a tile or marking its ticket leaves one
-- that does. Assumes nothing.
use mathlib.Core.Path.{◌≡◌, sym, ap, ap₂, ◌∙◌}
use mathlib.Core.Bool.{true, false, not, ◌&&◌, true≢false, false≢true}
use mathlib.Core.Logic.{◌≢◌, ◌⊎◌, inl, inr, ⊎_elim}
use Prim.Native.Nat.{ℕ, ◌+◌, ◌%◌, ◌<◌}
use native.Mathlib.Omega.{arith}
use borrow.Author.Tests.{not-false, not-true, eqb-true, eqb-false}
use lib.Dec.{eqb, ltb}
use lib.ListN.{length, get_or, length-set}
use lib.Seq.{get_or-set_same, get_or-set_other}
use Rattle.laws.specs.Store.{tab}
use Rattle.laws.proofs.Bool.{decided}
use Rattle.laws.proofs.Laid.{length_tab, get_or_tab}
use Rattle.tickets.specs.declared.Ticket.{Ticket}
use Rattle.plane.specs.Places.{overlap}
use Rattle.plane.specs.Plane.{no_tile, tile_at, is_open, area_of, with_ticket, with_tile, sides_ok, ticket_ok, placed, plane_ok, first_free, made}
use Rattle.plane.specs.declared.Plane.{Plane}
use Rattle.plane.specs.declared.Tile.{Tile}
use Rattle.plane.proofs.Smallest.{smallest_is, smallest_least}
use Rattle.plane.proofs.Rules.{TileRules, Rules, rules, rules_ok, overlap_sym}

pub record Fine (p : Plane) : Type 0 where
  pub many : length p.tiles ≡ 16
  pub keeps : Rules p

pub fine_ok : {p : Plane} → Fine p → plane_ok p ≡ true
fine_ok {p} f = rules_ok p f.keeps

-- ---- a record as made

pub made_fine : (w h : ℕ) → sides_ok w h ≡ true → Fine (made w h)
unfolding made
made_fine w h e =
    let none : (i : ℕ) → i < 16 → is_open (get_or (tab 16 (λ i. no_tile)) i no_tile) ≡ false = λ i b. ap is_open (get_or_tab 16 (λ i. no_tile) i no_tile b) in
    record {
      many = length_tab 16 (λ i. no_tile);
      keeps = record {
        sides = e;
        each = λ i b o. absurd (true≢false (sym o ∙ none i b));
        apart = λ i j b c d o u. absurd (true≢false (sym o ∙ none i b));
      };
    }

-- ---- a tile put in a record

module _ (p : Plane) (n : ℕ) (t : Tile) (many : length p.tiles ≡ 16) (small : n < 16) where
  pub put_same : tile_at (with_tile p n t) n ≡ t
  put_same = get_or-set_same p.tiles n t no_tile (omega (arith, many))

  pub put_other : (i : ℕ) → i ≢ n → tile_at (with_tile p n t) i ≡ tile_at p i
  put_other i e = get_or-set_other p.tiles n i t no_tile e

  pub put_many : length (with_tile p n t).tiles ≡ 16
  put_many = length-set p.tiles n t ∙ many

  pub which : (i : ℕ) → ((i ≡ n) × (tile_at (with_tile p n t) i ≡ t)) ⊎ ((i ≢ n) × (tile_at (with_tile p n t) i ≡ tile_at p i))
  which i =
      ⊎_elim
      (λ e. let u = eqb-true i n e in inl (u, ap (tile_at (with_tile p n t)) u ∙ put_same))
      (λ e. let u = eqb-false i n e in inr (u, put_other i u))
      (decided (eqb i n))

pub rules_same : {w h : ℕ} {s t : Tile} → s ≡ t → TileRules w h t → TileRules w h s
rules_same {w} {h} e k = record { ticket = ap (λ (x : Tile). ticket_ok x.ticket) e ∙ k.ticket; in_plane = ap (placed w h) e ∙ k.in_plane }

module _ (p : Plane) (n : ℕ) (t : Tile) (f : Fine p) (small : n < 16) where
  abbrev new : ℕ → Tile
  new = tile_at (with_tile p n t)

  pub put_fine : (is_open t ≡ true → TileRules p.w p.h t)
      → ((j : ℕ) → j < 16 → j ≢ n → is_open (tile_at p j) ≡ true → is_open t ≡ true → overlap (area_of (tile_at p j)) (area_of t) ≡ false)
      → Fine (with_tile p n t)
  put_fine good free =
      record {
        many = put_many p n t f.many small;
        keeps = record { sides = f.keeps.sides; each = each; apart = apart };
      }
    where
      each : (i : ℕ) → i < 16 → is_open (new i) ≡ true → TileRules p.w p.h (new i)
      each i b o =
          ⊎_elim
          (λ u. rules_same u.1 (good (sym (ap is_open u.1) ∙ o)))
          (λ u. rules_same u.1 (f.keeps.each i b (sym (ap is_open u.1) ∙ o)))
          (which p n t f.many small i)

      apart : (i j : ℕ) → i < 16 → j < 16 → i ≢ j → is_open (new i) ≡ true → is_open (new j) ≡ true → overlap (area_of (new i)) (area_of (new j)) ≡ false
      apart i j b c d o v =
          ⊎_elim
          (λ x.
          ⊎_elim
          (λ y. absurd (d (x.0 ∙ sym y.0)))
          (λ y. both_are x.1 y.1 (overlap_sym (area_of t) (area_of (tile_at p j)) ∙ free j c y.0 (sym (ap is_open y.1) ∙ v) (sym (ap is_open x.1) ∙ o)))
          (which p n t f.many small j))
          (λ x.
          ⊎_elim
          (λ y. both_are x.1 y.1 (free i b x.0 (sym (ap is_open x.1) ∙ o) (sym (ap is_open y.1) ∙ v)))
          (λ y. both_are x.1 y.1 (f.keeps.apart i j b c d (sym (ap is_open x.1) ∙ o) (sym (ap is_open y.1) ∙ v)))
          (which p n t f.many small j))
          (which p n t f.many small i)
        where
          both_are : {k l : Tile} → new i ≡ k → new j ≡ l → overlap (area_of k) (area_of l) ≡ false → overlap (area_of (new i)) (area_of (new j)) ≡ false
          both_are x y e = ap₂ (λ (k l : Tile). overlap (area_of k) (area_of l)) x y ∙ e

-- a tile closed
pub close_fine : {p : Plane} (n : ℕ) → Fine p → n < 16 → Fine (with_tile p n no_tile)
close_fine {p} n f small = put_fine p n no_tile f small (λ e. absurd (false≢true e)) (λ j b d o e. absurd (false≢true e))

-- a tile with another ticket of the same sides
pub ticket_fine : {p : Plane} (n : ℕ) (k : Ticket) → Fine p → n < 16 → is_open (tile_at p n) ≡ true → ticket_ok k ≡ true
    → k.w ≡ (tile_at p n).ticket.w → k.h ≡ (tile_at p n).ticket.h → Fine (with_tile p n (with_ticket (tile_at p n) k))
unfolding placed
ticket_fine {p} n k f small o ok ew eh =
    let t = tile_at p n in
    let area : area_of (with_ticket t k) ≡ area_of t = ap₂ (λ (w h : ℕ). record { x = t.x; y = t.y; w = w; h = h }) ew eh in
    put_fine p n (with_ticket t k) f small
    (λ e.
    record {
      ticket = ok;
      in_plane =
          ap₂ (λ (w h : ℕ). (not (ltb p.w (t.x + w)) && not (ltb p.h (t.y + h))) && ((eqb (t.x % 4) 0 && eqb (t.y % 4) 0) && ltb t.room 2)) ew eh
          ∙ (f.keeps.each n small o).in_plane;
    })
    (λ j b d u e. ap (overlap (area_of (tile_at p j))) area ∙ f.keeps.apart j n b small d u o)

-- a new tile: its opening is refused where the record would break a rule
pub open_fine : {p : Plane} (n : ℕ) (t : Tile) → Fine p → n < 16 → plane_ok (with_tile p n t) ≡ true → Fine (with_tile p n t)
open_fine {p} n t f small ok = record { many = put_many p n t f.many small; keeps = rules (with_tile p n t) ok }

-- ---- the smallest free number

pub free_closed : (p : Plane) → first_free p < 16 → is_open (tile_at p (first_free p)) ≡ false
unfolding first_free
free_closed p l = not-true _ (smallest_is (λ i. not (is_open (tile_at p i))) 16 0 (omega arith))

pub before_open : (p : Plane) (i : ℕ) → i < first_free p → is_open (tile_at p i) ≡ true
unfolding first_free
before_open p i l = not-false _ (smallest_least (λ i. not (is_open (tile_at p i))) 16 0 i (omega arith) l)
