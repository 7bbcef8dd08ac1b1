-- Two records that a room can't tell apart: they differ in the marks of the other room's tiles alone. Its calls answer the same on both, and
-- leave two such records. Assumes nothing.
use mathlib.Core.Path.{◌≡◌, refl, sym, ap, ap₂, ◌∙◌}
use mathlib.Core.Bool.{Bool, true, false, cond, not, ◌&&◌, true≢false}
use mathlib.Core.Logic.{⊎_elim}
use mathlib.Core.List.{List}
use Prim.Native.Nat.{ℕ, zero, suc, ◌<◌}
use borrow.Author.Tests.{ltb-true}
use lib.Dec.{eqb, ltb}
use lib.IntN.{ℤ}
use Rattle.laws.proofs.Bool.{both, same_test}
use Rattle.laws.proofs.Laid.{tab_ext}
use Rattle.answer.specs.Answer.{answers}
use Rattle.tickets.specs.Batch.{with_batch}
use Rattle.tickets.specs.declared.Batch.{Batch}
use Rattle.plane.specs.Places.{overlap}
use Rattle.plane.specs.Plane.{no_tile, tile_at, is_open, area_of, with_ticket, with_tile, sides_ok, plane_ok, smallest, first_free, has_place, open_answer, open_for, tile_answer}
use Rattle.plane.specs.Batch.{with_marks}
use Rattle.plane.specs.Isolation.{tiles_for}
use Rattle.plane.specs.declared.Plane.{Plane}
use Rattle.plane.specs.declared.Tile.{Tile}
use Rattle.plane.proofs.Rules.{TileRules, rules, rules_ok}
use Rattle.plane.proofs.Known.{tile_known}
use Rattle.plane.proofs.Fine.{Fine, fine_ok, rules_same, put_same, which}

-- room r can't tell two tiles apart
pub record Alike (r : ℕ) (s t : Tile) : Type 0 where
  pub is_open_lem : is_open s ≡ is_open t
  pub room : s.room ≡ t.room
  pub area : area_of s ≡ area_of t
  pub own : eqb s.room r ≡ true → s ≡ t

pub record Like (r : ℕ) (p q : Plane) : Type 0 where
  pub wide : p.w ≡ q.w
  pub high : p.h ≡ q.h
  pub each : (i : ℕ) → Alike r (tile_at p i) (tile_at q i)

alike_refl : {r : ℕ} (t : Tile) → Alike r t t
alike_refl t = record { is_open_lem = refl; room = refl; area = refl; own = λ e. refl }

pub like_refl : {r : ℕ} (p : Plane) → Like r p p
like_refl p = record { wide = refl; high = refl; each = λ i. alike_refl (tile_at p i) }

alike_is : {r : ℕ} {s s' t t' : Tile} → s ≡ s' → t ≡ t' → Alike r s' t' → Alike r s t
alike_is {r} e f k =
    record {
      is_open_lem = ap is_open e ∙ k.is_open_lem ∙ sym (ap is_open f);
      room = ap (λ (x : Tile). x.room) e ∙ k.room ∙ sym (ap (λ (x : Tile). x.room) f);
      area = ap area_of e ∙ k.area ∙ sym (ap area_of f);
      own = λ o. e ∙ k.own (sym (ap (λ (x : Tile). eqb x.room r) e) ∙ o) ∙ sym f;
    }

module _ {r : ℕ} {p q : Plane} (f : Fine p) (g : Fine q) (k : Like r p q) where
  -- ---- the same tile put in both; a batch of the other room's tile in one

  pub put_like : (n : ℕ) (t : Tile) → n < 16 → Like r (with_tile p n t) (with_tile q n t)
  put_like n t small = record { wide = k.wide; high = k.high; each = each }
    where
      each : (i : ℕ) → Alike r (tile_at (with_tile p n t) i) (tile_at (with_tile q n t) i)
      each i =
          ⊎_elim
          (λ x. ⊎_elim (λ y. alike_is x.1 y.1 (alike_refl t)) (λ y. absurd (y.0 x.0)) (which q n t g.many small i))
          (λ x. ⊎_elim (λ y. absurd (x.0 y.0)) (λ y. alike_is x.1 y.1 (k.each i)) (which q n t g.many small i))
          (which p n t f.many small i)

  pub marked_like : (n : ℕ) (b : Batch) → n < 16 → eqb (tile_at p n).room r ≡ false → Like r (with_marks p n b) q
  unfolding with_batch
  marked_like n b small other = record { wide = k.wide; high = k.high; each = each }
    where
      with_marks_lem : (t : Tile) → t ≡ tile_at p n → Alike r (with_ticket t (with_batch t.ticket b)) (tile_at q n)
      with_marks_lem t e =
          let a = alike_is e refl (k.each n) in
          record {
            is_open_lem = a.is_open_lem;
            room = a.room;
            area = a.area;
            own = λ o. absurd (true≢false (sym o ∙ ap (λ (x : Tile). eqb x.room r) e ∙ other));
          }

      each : (i : ℕ) → Alike r (tile_at (with_marks p n b) i) (tile_at q i)
      each i =
          ⊎_elim
          (λ x. alike_is x.1 (ap (tile_at q) x.0) (with_marks_lem (tile_at p n) refl))
          (λ x. alike_is x.1 refl (k.each i))
          (which p n (with_ticket (tile_at p n) (with_batch (tile_at p n).ticket b)) f.many small i)

  -- ---- the same answers

  pub free_same : first_free p ≡ first_free q
  unfolding first_free smallest
  free_same = go 16 0
    where
      go : (n i : ℕ) → smallest n i (λ i. not (is_open (tile_at p i))) ≡ smallest n i (λ i. not (is_open (tile_at q i)))
      go zero i = refl
      go (suc n) i = ap₂ (λ (b : Bool) (m : ℕ). cond (not b) i m) (k.each i).is_open_lem (go n (suc i))

  pub tile_same : (room n : ℕ) → tile_answer p room n ≡ tile_answer q room n
  unfolding tile_answer open_for
  tile_same room n = rw (fine_ok f, fine_ok g, (k.each n).is_open_lem, (k.each n).room)

-- a tile keeps the rules in one record where it does in the other
across : {r : ℕ} {p q : Plane} → Fine p → Fine q → Like r p q → (n : ℕ) (t : Tile) → n < 16 → plane_ok (with_tile p n t) ≡ true
    → plane_ok (with_tile q n t) ≡ true
across {r} {p} {q} f g k n t small ok =
    let a = rules (with_tile p n t) ok in
    let l = put_like f g k n t small in
    let same = put_same p n t f.many small in
    rules_ok (with_tile q n t)
    (record {
      sides = ap₂ sides_ok (sym k.wide) (sym k.high) ∙ a.sides;
      each = λ i b o.
          ⊎_elim
          (λ x.
          let open-too = ap is_open same ∙ sym (ap is_open x.1) ∙ o in
          rules_same x.1 (of_sides (rules_same (sym same) (a.each n small open-too))))
          (λ x. rules_same x.1 (g.keeps.each i b (sym (ap is_open x.1) ∙ o)))
          (which q n t g.many small i);
      apart = λ i j b c d o u.
          ap₂ overlap (sym (l.each i).area) (sym (l.each j).area) ∙ a.apart i j b c d ((l.each i).is_open_lem ∙ o) ((l.each j).is_open_lem ∙ u);
    })
  where
    of_sides : {t : Tile} → TileRules p.w p.h t → TileRules q.w q.h t
    of_sides x = rw (k.wide, k.high) at x

like_sym : {r : ℕ} {p q : Plane} → Like r p q → Like r q p
like_sym {r} {p} {q} k =
    record {
      wide = sym k.wide;
      high = sym k.high;
      each = λ i.
          let a = k.each i in
          record {
            is_open_lem = sym a.is_open_lem;
            room = sym a.room;
            area = sym a.area;
            own = λ e. sym (a.own (ap (λ (n : ℕ). eqb n r) a.room ∙ e));
          };
    }

module _ {r : ℕ} {p q : Plane} (f : Fine p) (g : Fine q) (k : Like r p q) where
  pub place_same : (t : Tile) → has_place p t ≡ has_place q t
  unfolding has_place
  place_same t =
      same_test _ _ (one f g k (free_same f g k)) (one g f (like_sym k) (sym (free_same f g k)))
    where
      one : {a b : Plane} → Fine a → Fine b → Like r a b → first_free a ≡ first_free b
          → (ltb (first_free a) 16 && plane_ok (with_tile a (first_free a) t)) ≡ true → (ltb (first_free b) 16 && plane_ok (with_tile b (first_free b) t)) ≡ true
      one {a} {b} fa fb l e ok =
          let x = both (ltb (first_free a) 16) (plane_ok (with_tile a (first_free a) t)) ok in
          ap₂ ◌&&◌ (ap (λ (n : ℕ). ltb n 16) (sym e) ∙ x.0)
          (ap (λ (n : ℕ). plane_ok (with_tile b n t)) (sym e) ∙ across fa fb l (first_free a) t (ltb-true (first_free a) 16 x.0) x.1)

  pub open_same : (t : Tile) (residuals : List ℤ) (ls lo : ℕ) → open_answer p t residuals ls lo ≡ open_answer q t residuals ls lo
  unfolding open_answer
  open_same t residuals ls lo = rw (place_same t, free_same f g k, k.wide, k.high)

  -- a tile of the room is the same in both
  pub own_same : (room n m : ℕ) → eqb room r ≡ true → answers m ≡ tile_answer p room n → tile_at p n ≡ tile_at q n
  own_same room n m e a = (k.each n).own (ap (λ (x : ℕ). eqb x r) (tile_known p room n m a).room_is ∙ e)

-- a room is shown the same tiles
pub shown_same : {r : ℕ} {p q : Plane} → Like r p q → tiles_for r p ≡ tiles_for r q
unfolding tiles_for
shown_same {r} {p} {q} k = tab_ext 16 _ _ (λ i l. one i)
  where
    one : (i : ℕ) → cond (is_open (tile_at p i) && eqb (tile_at p i).room r) (tile_at p i) no_tile ≡ cond (is_open (tile_at q i) && eqb (tile_at q i).room r) (tile_at q i) no_tile
    one i =
        let a = k.each i in
        ap₂ (λ (x : Bool) (y : ℕ). cond (x && eqb y r) (tile_at p i) no_tile) a.is_open_lem a.room
        ∙ go (is_open (tile_at q i)) (eqb (tile_at q i).room r) (λ e. a.own (ap (λ (n : ℕ). eqb n r) a.room ∙ e))
      where
        go : (x y : Bool) → (y ≡ true → tile_at p i ≡ tile_at q i) → cond (x && y) (tile_at p i) no_tile ≡ cond (x && y) (tile_at q i) no_tile
        go true true e = e refl
        go true false e = refl
        go false y e = refl
