-- Lines written into a plane, and what they make of a tile there. Assumes nothing.
use mathlib.Core.Path.{◌≡◌, sym, ap, ap₂, ◌∙◌}
use mathlib.Core.Bool.{true, false, false≢true}
use mathlib.Core.Logic.{◌⊎◌, inl, inr, ⊎_elim}
use mathlib.Core.List.{List}
use Prim.Native.Nat.{ℕ, ◌+◌, ◌-◌, ◌*◌, ◌/◌, ◌%◌, ◌<◌, ◌≤◌}
use native.Mathlib.Nat.{mul_comm, mul-one, mul-le-mul_left, mul-le-mul_right, add-mul, mod-lt, div-add-mod', div-lt_iff_lt-mul}
use native.Mathlib.Omega.{arith}
use lib.Arith.{digits_lt, digits_div, digits_mod}
use lib.IntN.{ℤ, pos}
use lib.ListN.{length, get_or, take, drop, length-drop}
use borrow.Rule.Slice.PartMut.{put_mid}
use Rattle.std.proofs.lemmas.List.{length-take-le}
use lib.Seq.{ext_get_or, get_or-take, get_or-drop}
use Rattle.laws.specs.Store.{stores, grid, laid}
use Rattle.laws.proofs.Bool.{both, decided}
use Rattle.laws.proofs.Laid.{laid_before, laid_at, laid_after}
use Rattle.laws.proofs.Pasted.{copied}
use Rattle.laws.proofs.Place.{line_ends, split, place_same}
use Rattle.laws.proofs.Store.{stores_ext, length_grid, grid_in, grid_out}
use Rattle.tickets.specs.Mark.{is_among}
use Rattle.tickets.proofs.Mark.{among_lt}
use Rattle.plane.specs.Places.{Area, place_of, tile_of, is_in, put_tile, plane_place, line_number}
use Rattle.plane.proofs.Places.{Lies, length_tile, length_put, tile_at_lem, put_in, put_off, place_lt, place_in}

-- ---- line i lies in both buffers

pub record InRow (w width x y i lb lo : ℕ) : Type 0 where
  pub source : i * w + w ≤ lb
  pub target : (y + i) * width + x + w ≤ lo
  pub low : y + i ≤ lo

pub in_row : (w count width x y i lb lo : ℕ) → 1 ≤ w → count * w ≤ lb → x + w ≤ width → (y + count) * width ≤ lo → i < count
    → InRow w width x y i lb lo
in_row w count width x y i lb lo some a b c l =
    let all : width ≤ width = omega arith in
    let two : (y + i) * width + width ≤ lo = line_ends (y + i) width c (omega arith) all in
    record {
      source = let own : w ≤ w = omega arith in line_ends i w a l own;
      target = omega arith;
      low = omega (arith, mul-one (y + i), mul-le-mul_left {m = 1} {n = width} (y + i) (omega arith));
    }

-- a line of a buffer, copied
pub line_copied : (d buffer : List ℤ) (at w i : ℕ) {l : List ℤ} → i * w + w ≤ length buffer → at + w ≤ length d
    → l ≡ take (i * w + w - i * w) (drop (i * w) buffer)
    → put_mid at (at + w - at) d l ≡ stores d w (λ k. at + k) (line_number buffer w i)
line_copied d buffer at w i room long e =
    let n : i * w + w - i * w ≡ w = omega arith in
    copied d at w (pos 0)
    (length-take-le (i * w + w - i * w) (drop (i * w) buffer) (omega (arith, length-drop (i * w) buffer)) ∙ n) e long
    ∙ stores_ext d w (λ k. at + k) _ _
    (λ k l. get_or-take (i * w + w - i * w) (drop (i * w) buffer) k (pos 0) (omega arith) ∙ get_or-drop (i * w) buffer k (pos 0))

-- ---- a plane by its places: those of a tile, and the others

module _ {width height : ℕ} {a : Area} (tile plane : List ℤ) (k : Lies width height a (length plane)) where
  -- a place of the tile is that of one of its numbers
  in_place : (q : ℕ) → is_in width a q ≡ true
      → let p = (q / width - a.y) * a.w + (q % width - a.x) in (p < a.w * a.h) × (place_of width a p ≡ q)
  unfolding is_in
  in_place q e =
      let h = both (is_among a.x a.w (q % width)) (is_among a.y a.h (q / width)) e in
      let c = among_lt a.x a.w (q % width) h.0 in
      let r = among_lt a.y a.h (q / width) h.1 in
      let i = q / width - a.y in
      let j = q % width - a.x in
      let bj : j < a.w = omega arith in
      let bi : i < a.h = omega arith in
      let ei : a.y + i ≡ q / width = omega arith in
      let ej : a.x + j ≡ q % width = omega arith in (
        omega (arith, digits_lt bi bj, mul_comm a.w a.h),
        ap₂ (λ (u v : ℕ). (a.y + u) * width + (a.x + v)) (digits_div i bj) (digits_mod i bj)
            ∙ ap₂ (λ (u v : ℕ). u * width + v) ei ej
            ∙ div-add-mod' q width,
      )

  pub put_is : (d : List ℤ) → length d ≡ length plane → ((p : ℕ) → p < a.w * a.h → get_or d (place_of width a p) (pos 0) ≡ get_or tile p (pos 0))
      → ((q : ℕ) → q < length plane → is_in width a q ≡ false → get_or d q (pos 0) ≡ get_or plane q (pos 0)) → d ≡ put_tile width a tile plane
  put_is d long inside outside =
      ext_get_or (pos 0) d (put_tile width a tile plane) (long ∙ sym (length_put width a tile plane))
      (λ q b.
      let l : q < length plane = omega arith in
      ⊎_elim
      (λ e.
      let p = (q / width - a.y) * a.w + (q % width - a.x) in
      let n = in_place q e in
      ap (λ (i : ℕ). get_or d i (pos 0)) (sym n.1)
      ∙ inside p n.0
      ∙ sym (put_in tile plane k p n.0)
      ∙ ap (λ (i : ℕ). get_or (put_tile width a tile plane) i (pos 0)) n.1)
      (λ e. outside q l e ∙ sym (put_off width a tile plane q l e))
      (decided (is_in width a q)))

-- ---- lines of a tile

module _ {width height : ℕ} {a : Area} (plane : List ℤ) (k : Lies width height a (length plane)) (start count : ℕ) (end : start + count ≤ a.h)
    (g : ℕ → ℕ → ℤ) where
  abbrev w : ℕ
  w = a.w

  abbrev place : ℕ → ℕ → ℕ
  place = plane_place width a.x (a.y + start)

  abbrev tile : List ℤ
  tile = tile_of width a plane

  abbrev new : List ℤ
  new = laid tile (start * w) (count * w) (λ p. g (p / w) (p % w))

  abbrev written : List ℤ
  written = grid plane count w place g

  -- the place of number f of line j of them
  place_is : (j f : ℕ) → f < w → place j f ≡ place_of width a ((start + j) * w + f)
  place_is j f b =
      add_places
      ∙ sym (ap₂ (λ (u v : ℕ). (a.y + u) * width + (a.x + v)) (digits_div (start + j) b) (digits_mod (start + j) b))
    where
      add_places : (a.y + start + j) * width + a.x + f ≡ (a.y + (start + j)) * width + (a.x + f)
      add_places = ap (λ (u : ℕ). u * width + a.x + f) (sums a.y start j) ∙ sums ((a.y + (start + j)) * width) a.x f
        where
          sums : (u v t : ℕ) → u + v + t ≡ u + (v + t)
          sums u v t = omega arith

  -- it is one of the tile's numbers
  number_lt : (j f : ℕ) → j < count → f < w → (start + j) * w + f < w * a.h
  number_lt j f bj bf = omega (arith, digits_lt {q = start + j} {m = a.h} (omega arith) bf, mul_comm w a.h)

  in_lines : (j f : ℕ) → j < count → f < w → (start * w ≤ (start + j) * w + f) × ((start + j) * w + f < start * w + count * w)
  in_lines j f bj bf = (
    omega (arith, add-mul start j w),
    omega (arith, add-mul start count w, digits_lt {q = start + j} {m = start + count} (omega arith) bf),
  )

  across : (p : ℕ) → a.x + p % w < width
  across p = omega (arith, mod-lt p k.some, k.across)

  -- two numbers of a tile have two places
  place_one : (p r : ℕ) → place_of width a p ≡ place_of width a r → p ≡ r
  place_one p r e =
      let s = place_same {a = a.y + p / w} {b = a.x + p % w} {i = a.y + r / w} {h = a.x + r % w} (across p) (across r) e in
      sym (div-add-mod' p w) ∙ ap₂ (λ (u v : ℕ). u * w + v) (same a.y s.0) (same a.x s.1) ∙ div-add-mod' r w
    where
      same : (c : ℕ) {u v : ℕ} → c + u ≡ c + v → u ≡ v
      same c e = omega arith

  -- a number that is on none of the lines
  not_written : (p : ℕ) → (p < start * w) ⊎ (start * w + count * w ≤ p) → get_or written (place_of width a p) (pos 0) ≡ get_or plane (place_of width a p) (pos 0)
  not_written p o =
      grid_out plane count w place g (place_of width a p) (pos 0)
      (λ j f bj bf e.
      let h = place_one p ((start + j) * w + f) (e ∙ place_is j f bf) in
      let i = in_lines j f bj bf in
      ⊎_elim (λ u. omega arith) (λ u. omega arith) o)

  is_written : (j f : ℕ) → j < count → f < w → get_or written (place j f) (pos 0) ≡ g j f
  is_written j f bj bf =
      grid_in plane count w place g j f (pos 0) bj bf
      (omega (arith, place_is j f bf, place_lt k ((start + j) * w + f) (number_lt j f bj bf)))
      (λ i h bi bh e.
      let s = place_one ((start + j) * w + f) ((start + i) * w + h) (sym (place_is j f bf) ∙ e ∙ place_is i h bh) in
      let q = place_same {a = start + j} {b = f} {i = start + i} {h = h} bf bh s in
      (omega (arith, q.0), q.1))

  room : start * w + count * w ≤ length tile
  room = omega (arith, length_tile width a plane, add-mul start count w, mul-le-mul_right w end, mul_comm w a.h)

  inside : (p : ℕ) → p < w * a.h → get_or written (place_of width a p) (pos 0) ≡ get_or new p (pos 0)
  inside p l =
      ⊎_elim
      (λ u. not_written p (inl u) ∙ sym (laid_before tile (start * w) (count * w) _ room p (pos 0) u ∙ tile_at_lem width a plane p l))
      (λ u.
      ⊎_elim
      (λ v.
      let r = p - start * w in
      let e : start * w + r ≡ p = omega arith in
      let bj : r / w < count = (div-lt_iff_lt-mul k.some).1 (omega arith) in
      let same : (start + r / w) * w + r % w ≡ p = omega (arith, add-mul start (r / w) w, div-add-mod' r w) in
      ap (λ (i : ℕ). get_or written (place_of width a i) (pos 0)) (sym same)
      ∙ ap (λ (i : ℕ). get_or written i (pos 0)) (sym (place_is (r / w) (r % w) (mod-lt r k.some)))
      ∙ is_written (r / w) (r % w) bj (mod-lt r k.some)
      ∙ sym (laid_at tile (start * w) (count * w) (λ p. g (p / w) (p % w)) room r (pos 0) (omega arith))
      ∙ ap (λ (i : ℕ). get_or new i (pos 0)) e)
      (λ v.
      let e : start * w + count * w + (p - (start * w + count * w)) ≡ p = omega arith in
      not_written p (inr v)
      ∙ sym (tile_at_lem width a plane p l)
      ∙ sym (rw e at (laid_after tile (start * w) (count * w) (λ p. g (p / w) (p % w)) room (p - (start * w + count * w)) (pos 0))))
      (split p (start * w + count * w)))
      (split p (start * w))

  outside : (q : ℕ) → is_in width a q ≡ false → get_or written q (pos 0) ≡ get_or plane q (pos 0)
  outside q e =
      grid_out plane count w place g q (pos 0)
      (λ j f bj bf h.
      false≢true
      (sym e ∙ ap (is_in width a) (h ∙ place_is j f bf) ∙ place_in k ((start + j) * w + f) (number_lt j f bj bf)))

  -- the lines written into the plane are the tile with those lines replaced, put in its places
  pub rows_put : written ≡ put_tile width a new plane
  rows_put = put_is new plane k written (length_grid plane count w place g) inside (λ q l e. outside q e)
