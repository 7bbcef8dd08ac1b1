-- Reachable records, tiles that never overlap, a place for a new tile, a closed place, the smallest free number, and places outside a call's own
-- tile. Assumes nothing.
use mathlib.Core.Path.{◌≡◌, refl, sym, ap, ap₂, ◌∙◌}
use mathlib.Core.Bool.{Bool, true, false, cond, not, and_assoc, ◌&&◌, true≢false}
use Rattle.std.specs.Cmp.Derive.{both_true}
use mathlib.Core.Logic.{◌≢◌, ⊎_elim}
use mathlib.Core.List.{List}
use Prim.Native.Nat.{ℕ, ◌+◌, ◌*◌, ◌%◌, ◌<◌}
use native.Mathlib.Omega.{arith}
use borrow.Author.Tests.{ltb-true, lt-ltb}
use lib.Dec.{eqb, ltb}
use lib.IntN.{ℤ, pos}
use lib.ListN.{length, get_or, get_or-eq_default}
use Rattle.laws.proofs.Bool.{both, decided}
use Rattle.laws.proofs.Place.{split}
use Rattle.answer.specs.Answer.{Answer, answers, refuses, after}
use Rattle.tickets.specs.Batch.{answer_unless, lines_of}
use Rattle.tickets.specs.declared.Batch.{Batch}
use Rattle.plane.specs.Places.{Area, overlap, is_in, tile_of, put_tile}
use Rattle.plane.specs.Plane.{no_tile, tile_at, is_open, area_of, new_tile, with_tile, ticket_ok, placed, plane_ok, tile_answer, plane_after, first_free, has_place, made, opening, closing}
use Rattle.plane.specs.Batch.{Kept, unless, columns_in, rows_in}
use Rattle.plane.specs.Calls.{opens, closes, batches, frame_at, column_turn, row_turn, turn}
use Rattle.plane.specs.Record.{Reachable, NeverOverlap, Placing, PlaceFound, Reopened, SmallestFree, OutsideKept}
use Rattle.plane.specs.declared.Plane.{Plane}
use Rattle.plane.specs.declared.Tile.{Tile}
use Rattle.plane.proofs.Places.{length_put, put_off, meets}
use Rattle.plane.proofs.Rules.{rules, rules_ok}
use Rattle.plane.proofs.Known.{tile_known, open_known}
use Rattle.plane.proofs.Fine.{Fine, fine_ok, rules_same, put_same, put_other, put_many, put_fine, close_fine, free_closed, before_open}
use Rattle.plane.proofs.Turns.{made_good, good_all}

pub reachable : Reachable
reachable w h output sides cs =
    let g = good_all cs (frame_at (made w h) output) (made_good w h sides) in (fine_ok g.fine, g.wide, g.high)

-- ---- tiles never overlap

pub never_overlap : NeverOverlap
never_overlap p ok i j a b d o u q e =
    ⊎_elim
    (λ f. absurd (true≢false (sym (meets p.w (area_of (tile_at p i)) (area_of (tile_at p j)) q e f) ∙ (rules p ok).apart i j a b d o u)))
    (λ f. f)
    (decided (is_in p.w (area_of (tile_at p j)) q))

-- ---- a place for a new tile

module _ (p : Plane) (t : Tile) (many : length p.tiles ≡ 16) (o : is_open t ≡ true) where
  -- the free number is no open tile's
  not_free : (i : ℕ) → first_free p < 16 → is_open (tile_at p i) ≡ true → i ≢ first_free p
  not_free i free u e = true≢false (sym u ∙ ap (λ (k : ℕ). is_open (tile_at p k)) e ∙ free_closed p free)

  found : has_place p t ≡ true → Placing p t
  unfolding has_place
  found e =
      let n = first_free p in
      let q = with_tile p n t in
      let b = both (ltb n 16) (plane_ok q) e in
      let free = ltb-true n 16 b.0 in
      let k = rules q b.1 in
      let same = put_same p n t many free in
      let old : (i : ℕ) → is_open (tile_at p i) ≡ true → tile_at p i ≡ tile_at q i = λ i u. sym (put_other p n t many free i (not_free i free u)) in
      let still : (i : ℕ) → is_open (tile_at p i) ≡ true → is_open (tile_at q i) ≡ true = λ i u. sym (ap is_open (old i u)) ∙ u in
      record {
        free = free;
        valid = rules_ok p
            (record {
              sides = k.sides;
              each = λ i l u. rules_same (old i u) (k.each i l (still i u));
              apart = λ i j l m d u v.
                  ap₂ (λ (x y : Tile). overlap (area_of x) (area_of y)) (old i u) (old j v) ∙ k.apart i j l m d (still i u) (still j v);
            });
        in_plane = sym (ap (placed p.w p.h) same) ∙ (k.each n free (ap is_open same ∙ o)).in_plane;
        clear = λ i l u.
            ap₂ (λ (x y : Tile). overlap (area_of x) (area_of y)) (old i u) (sym same)
            ∙ k.apart i n l free (not_free i free u) (still i u) (ap is_open same ∙ o);
      }

  finds : ticket_ok t.ticket ≡ true → Placing p t → has_place p t ≡ true
  unfolding has_place
  finds ok k =
      ap₂ ◌&&◌ (lt-ltb (first_free p) 16 k.free)
      (fine_ok (put_fine p (first_free p) t (record { many = many; keeps = rules p k.valid }) k.free
      (λ e. record { ticket = ok; in_plane = k.in_plane }) (λ j l d u e. k.clear j l u)))

pub place_found : PlaceFound
place_found p t many o ok = (found p t many o, finds p t many o ok)

-- ---- a place that was closed

abbrev inside : ℕ → ℕ → Area → Bool
inside w h a = not (ltb w (a.x + a.w)) && not (ltb h (a.y + a.h))

abbrev on_grid : Area → Bool
on_grid a = eqb (a.x % 4) 0 && eqb (a.y % 4) 0

-- a tile is placed where another of its area is
placed_same : (w h : ℕ) (s t : Tile) → t.room < 2 → area_of t ≡ area_of s → placed w h s ≡ true → placed w h t ≡ true
unfolding placed
placed_same w h s t few e ok =
    let there = both (inside w h (area_of s) && on_grid (area_of s)) (ltb s.room 2) (and_assoc (inside w h (area_of s)) (on_grid (area_of s)) (ltb s.room 2) ∙ ok) in
    sym (and_assoc (inside w h (area_of t)) (on_grid (area_of t)) (ltb t.room 2))
    ∙ both_true (ap (λ (a : Area). inside w h a && on_grid a) e ∙ there.0) (lt-ltb t.room 2 few)

pub reopened : Reopened
unfolding closing
reopened p room n m many e t o ok few area =
    let k = tile_known p room n m (sym e) in
    let q = with_tile p n no_tile in
    let old = rules p k.valid in
    let f : Fine p = record { many = many; keeps = old } in
    let none : is_open (tile_at q n) ≡ false = ap is_open (put_same p n no_tile many k.small) in
    ap (λ (a : Answer). has_place (plane_after a q p) t) e
    ∙ finds q t (put_many p n no_tile many k.small) o ok
    (record {
      free = ⊎_elim (λ l. l) (λ l. absurd (true≢false (sym (before_open q n (omega (arith, k.small))) ∙ none))) (split (first_free q) 16);
      valid = fine_ok (close_fine n f k.small);
      in_plane = placed_same p.w p.h (tile_at p n) t few area (old.each n k.small k.is_open_lem).in_plane;
      clear = λ i l u.
          let d : i ≢ n = λ c. true≢false (sym u ∙ ap (λ (j : ℕ). is_open (tile_at q j)) c ∙ none) in
          let was = put_other p n no_tile many k.small i d in
          ap₂ overlap (ap area_of was) area ∙ old.apart i n l k.small d (sym (ap is_open was) ∙ u) k.is_open_lem;
    })

-- ---- the smallest free number

pub smallest_free : SmallestFree
unfolding turn opening
smallest_free s site residuals scratch n e =
    let p = s.plane in
    let k = open_known p (new_tile site) residuals (length scratch) (length s.output) n (sym e) in (
      record {
        small = omega (arith, k.number, k.small);
        free = ap (λ (i : ℕ). is_open (tile_at p i)) k.number ∙ free_closed p k.small;
        least = λ i l. before_open p i (omega (arith, k.number));
      },
      ap (λ (a : Answer). frame_at (plane_after a (with_tile p (first_free p) (new_tile site)) p) s.output) e
          ∙ ap (λ (i : ℕ). frame_at (with_tile p i (new_tile site)) s.output) (sym k.number),
    )

-- ---- outside the tile

abbrev KeptOutside : ℕ → Area → List ℤ → List ℤ → Type 0
KeptOutside width a old new = (length new ≡ length old) × ((q : ℕ) → is_in width a q ≡ false → get_or new q (pos 0) ≡ get_or old q (pos 0))

put_kept : (width : ℕ) (a : Area) (tile old : List ℤ) (x : Answer) → KeptOutside width a old (after x (put_tile width a tile old) old)
put_kept width a tile old (refuses k) = (refl, λ q e. refl)
put_kept width a tile old (answers m) = (length_put width a tile old, outside)
  where
    outside : (q : ℕ) → is_in width a q ≡ false → get_or (put_tile width a tile old) q (pos 0) ≡ get_or old q (pos 0)
    outside q e =
        ⊎_elim (λ l. put_off width a tile old q l e)
        (λ l.
        get_or-eq_default (put_tile width a tile old) (pos 0) (omega (arith, length_put width a tile old))
        ∙ sym (get_or-eq_default old (pos 0) l))
        (split q (length old))

unless_kept : (p : Plane) (a : Area) (old : List ℤ) (k : Kept) → KeptOutside p.w a old k.buffer → (x : Answer)
    → KeptOutside p.w a old (unless x p old k).buffer
unless_kept p a old k f (answers m) = f
unless_kept p a old k f (refuses j) = (refl, λ q e. refl)

rows_kept : (p : Plane) (room n : ℕ) (b : Batch) (scratch output : List ℤ)
    → KeptOutside p.w (area_of (tile_at p n)) output (rows_in p room n b scratch output).buffer
unfolding rows_in
rows_kept p room n b scratch output =
    let t = tile_at p n in
    let tile = tile_of p.w (area_of t) output in
    unless_kept p (area_of t) output _
    (put_kept p.w (area_of t) (lines_of t.ticket b scratch tile) output
    (answer_unless (ltb (length output) (p.w * p.h)) t.ticket b (length scratch) (length tile)))
    (tile_answer p room n)

pub outside_kept : OutsideKept
unfolding turn
outside_kept s (opens site residuals scratch) = (refl, λ q e. refl)
outside_kept s (closes room n) = (refl, λ q e. refl)
outside_kept s (batches room n b residuals scratch) = go b.row
  where
    go : (row : Bool) → KeptOutside s.plane.w (area_of (tile_at s.plane n)) s.output
        (cond row (row_turn scratch (rows_in s.plane room n b scratch s.output)) (column_turn s (columns_in s.plane room n b residuals scratch))).frame.output
    go true = rows_kept s.plane room n b scratch s.output
    go false = (refl, λ q e. refl)
