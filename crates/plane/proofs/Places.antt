-- A tile's places: read back as they were put, and left alone by a tile that doesn't overlap. Assumes nothing.
use mathlib.Core.Path.{◌≡◌, sym, ap, ap₂, ◌∙◌}
use mathlib.Core.Bool.{Bool, true, false, cond, true≢false}
use mathlib.Core.Logic.{⊎_elim}
use mathlib.Core.List.{List}
use Prim.Native.Nat.{ℕ, ◌+◌, ◌-◌, ◌*◌, ◌/◌, ◌%◌, ◌<◌, ◌≤◌}
use native.Mathlib.Nat.{mod-lt, div-add-mod', div-lt_iff_lt-mul, mul_comm}
use native.Mathlib.Omega.{arith}
use borrow.Author.Tests.{lt-ltb}
use lib.Arith.{digits_lt, digits_div, digits_mod}
use lib.IntN.{ℤ, pos}
use lib.ListN.{length, get_or}
use lib.Seq.{ext_get_or}
use Rattle.laws.proofs.Bool.{both, decided}
use Rattle.laws.proofs.Laid.{length_tab, get_or_tab}
use Rattle.tickets.specs.Mark.{is_among}
use Rattle.tickets.proofs.Mark.{among_in, among_lt}
use Rattle.plane.specs.Places.{Area, overlap, place_of, tile_of, is_in, put_tile}

-- a tile that lies in a plane of this size
pub record Lies (width height : ℕ) (a : Area) (long : ℕ) : Type 0 where
  pub some : 0 < a.w
  pub across : a.x + a.w ≤ width
  pub down : a.y + a.h ≤ height
  pub room : width * height ≤ long

pub length_tile : (width : ℕ) (a : Area) (plane : List ℤ) → length (tile_of width a plane) ≡ a.w * a.h
unfolding tile_of
length_tile width a plane = length_tab (a.w * a.h) _

pub length_put : (width : ℕ) (a : Area) (tile plane : List ℤ) → length (put_tile width a tile plane) ≡ length plane
unfolding put_tile
length_put width a tile plane = length_tab (length plane) _

pub tile_at_lem : (width : ℕ) (a : Area) (plane : List ℤ) (p : ℕ) → p < a.w * a.h
    → get_or (tile_of width a plane) p (pos 0) ≡ get_or plane (place_of width a p) (pos 0)
unfolding tile_of
tile_at_lem width a plane p l = get_or_tab (a.w * a.h) (λ p. get_or plane (place_of width a p) (pos 0)) p (pos 0) l

module _ (width : ℕ) (a : Area) (tile plane : List ℤ) where
  put_at : (q : ℕ) → q < length plane → get_or (put_tile width a tile plane) q (pos 0)
      ≡ cond (is_in width a q) (get_or tile ((q / width - a.y) * a.w + (q % width - a.x)) (pos 0)) (get_or plane q (pos 0))
  unfolding put_tile
  put_at q l =
      get_or_tab (length plane)
      (λ q. cond (is_in width a q) (get_or tile ((q / width - a.y) * a.w + (q % width - a.x)) (pos 0)) (get_or plane q (pos 0))) q (pos 0) l

  pub put_off : (q : ℕ) → q < length plane → is_in width a q ≡ false → get_or (put_tile width a tile plane) q (pos 0) ≡ get_or plane q (pos 0)
  put_off q l e = put_at q l ∙ rw e

module _ {width height long : ℕ} {a : Area} (k : Lies width height a long) where
  abbrev row : ℕ → ℕ
  row p = p / a.w

  abbrev column : ℕ → ℕ
  column p = p % a.w

  few_rows : (p : ℕ) → p < a.w * a.h → row p < a.h
  few_rows p l = (div-lt_iff_lt-mul k.some).1 (omega (arith, mul_comm a.w a.h))

  few_columns : (p : ℕ) → column p < a.w
  few_columns p = mod-lt p k.some

  place_row : (p : ℕ) → place_of width a p / width ≡ a.y + row p
  place_row p = digits_div (a.y + row p) (omega (arith, few_columns p, k.across))

  place_column : (p : ℕ) → place_of width a p % width ≡ a.x + column p
  place_column p = digits_mod (a.y + row p) (omega (arith, few_columns p, k.across))

  -- each place of a tile lies in the plane
  pub place_lt : (p : ℕ) → p < a.w * a.h → place_of width a p < long
  place_lt p l =
      omega (
        arith,
        digits_lt {q = a.y + row p} {m = height} {r = a.x + column p} {c = width} (omega (arith, few_rows p l, k.down)) (omega (arith, few_columns p, k.across)),
        mul_comm width height,
        k.room,
      )

  pub place_in : (p : ℕ) → p < a.w * a.h → is_in width a (place_of width a p) ≡ true
  unfolding is_in
  place_in p l =
      rw (
        place_row p,
        place_column p,
        among_in a.x a.w (a.x + column p) (omega arith) (omega (arith, few_columns p)),
        among_in a.y a.h (a.y + row p) (omega arith) (omega (arith, few_rows p l)),
      )

-- ---- what was put is read back

module _ {width height : ℕ} {a : Area} (tile plane : List ℤ) (k : Lies width height a (length plane)) where
  pub put_in : (p : ℕ) → p < a.w * a.h → get_or (put_tile width a tile plane) (place_of width a p) (pos 0) ≡ get_or tile p (pos 0)
  put_in p l =
      let e : (place_of width a p / width - a.y) * a.w + (place_of width a p % width - a.x) ≡ p =
      ap₂ (λ (i j : ℕ). (i - a.y) * a.w + (j - a.x)) (place_row k p) (place_column k p) ∙ back in
      put_at width a tile plane (place_of width a p) (place_lt k p l)
      ∙ ap (λ (x : Bool). cond x (get_or tile ((place_of width a p / width - a.y) * a.w + (place_of width a p % width - a.x)) (pos 0))
      (get_or plane (place_of width a p) (pos 0))) (place_in k p l)
      ∙ ap (λ (i : ℕ). get_or tile i (pos 0)) e
    where
      off : (b c : ℕ) → b + c - b ≡ c
      off b c = omega arith

      back : (a.y + p / a.w - a.y) * a.w + (a.x + p % a.w - a.x) ≡ p
      back = ap₂ (λ (i j : ℕ). i * a.w + j) (off a.y (p / a.w)) (off a.x (p % a.w)) ∙ div-add-mod' p a.w

  pub tile_put : length tile ≡ a.w * a.h → tile_of width a (put_tile width a tile plane) ≡ tile
  tile_put e =
      ext_get_or (pos 0) (tile_of width a (put_tile width a tile plane)) tile (length_tile width a (put_tile width a tile plane) ∙ sym e)
      (λ p b.
      let l : p < a.w * a.h = omega (arith, length_tile width a (put_tile width a tile plane)) in
      tile_at_lem width a (put_tile width a tile plane) p l ∙ put_in p l)

-- ---- a tile that doesn't overlap is left alone

-- areas with a place in common overlap
pub meets : (width : ℕ) (a b : Area) (q : ℕ) → is_in width a q ≡ true → is_in width b q ≡ true → overlap a b ≡ true
unfolding is_in overlap
meets width a b q e f =
    let i = both (is_among a.x a.w (q % width)) (is_among a.y a.h (q / width)) e in
    let j = both (is_among b.x b.w (q % width)) (is_among b.y b.h (q / width)) f in
    let ax = among_lt a.x a.w (q % width) i.0 in
    let ay = among_lt a.y a.h (q / width) i.1 in
    let bx = among_lt b.x b.w (q % width) j.0 in
    let by = among_lt b.y b.h (q / width) j.1 in
    rw (
      lt-ltb b.x (a.x + a.w) (omega arith),
      lt-ltb a.x (b.x + b.w) (omega arith),
      lt-ltb b.y (a.y + a.h) (omega arith),
      lt-ltb a.y (b.y + b.h) (omega arith),
    )

pub tile_other : {width height : ℕ} {b : Area} (a : Area) (tile plane : List ℤ) → Lies width height b (length plane) → overlap a b ≡ false
    → tile_of width b (put_tile width a tile plane) ≡ tile_of width b plane
tile_other {width} {b = b} a tile plane k e =
    ext_get_or (pos 0) (tile_of width b (put_tile width a tile plane)) (tile_of width b plane)
    (length_tile width b (put_tile width a tile plane) ∙ sym (length_tile width b plane))
    (λ p c.
    let l : p < b.w * b.h = omega (arith, length_tile width b (put_tile width a tile plane)) in
    tile_at_lem width b (put_tile width a tile plane) p l
    ∙ put_off width a tile plane (place_of width b p) (place_lt k p l)
    (⊎_elim (λ u. absurd (true≢false (sym (meets width a b (place_of width b p) u (place_in k p l)) ∙ e))) (λ u. u) (decided (is_in width a (place_of width b p))))
    ∙ sym (tile_at_lem width b plane p l))
