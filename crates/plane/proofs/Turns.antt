-- What a call leaves: a record that keeps the rules, and the plane's sides. Assumes nothing.
use mathlib.Core.Path.{◌≡◌, refl, sym}
use mathlib.Core.Bool.{Bool, true, false, cond}
use mathlib.Core.List.{List, [], ◌∷◌}
use Prim.Native.Nat.{ℕ, ◌*◌, ◌<◌}
use lib.Dec.{ltb}
use lib.IntN.{ℤ}
use lib.ListN.{length}
use Rattle.answer.specs.Answer.{Answer, answers, refuses}
use Rattle.tickets.specs.Batch.{answer_unless, with_batch}
use Rattle.tickets.specs.declared.Batch.{Batch}
use Rattle.tickets.specs.declared.Ticket.{Ticket}
use Rattle.tickets.proofs.Order.{order_after}
use Rattle.plane.specs.Places.{tile_of}
use Rattle.plane.specs.Plane.{no_tile, tile_at, is_open, area_of, new_tile, with_tile, sides_ok, ticket_ok, plane_after, made, first_free, open_answer, tile_answer, opening, closing}
use Rattle.plane.specs.Batch.{Kept, with_marks, unless, columns_in, rows_in}
use Rattle.plane.specs.Calls.{Call, opens, closes, batches, Frame, column_turn, row_turn, turn, frame_after}
use Rattle.plane.specs.declared.Plane.{Plane}
use Rattle.plane.specs.declared.Tile.{Tile}
use Rattle.plane.proofs.Rules.{Lying, lying}
use Rattle.plane.proofs.Known.{tile_known, open_known}
use Rattle.plane.proofs.Fine.{Fine, made_fine, close_fine, ticket_fine, open_fine}

-- a record of these sides that keeps the rules
pub record Good (width height : ℕ) (p : Plane) : Type 0 where
  pub fine : Fine p
  pub wide : p.w ≡ width
  pub high : p.h ≡ height

pub made_good : (width height : ℕ) → sides_ok width height ≡ true → Good width height (made width height)
unfolding made
made_good width height e = record { fine = made_fine width height e; wide = refl; high = refl }

-- an accepted batch leaves a ticket that keeps the rules
ok_after : {w h : ℕ} {t : Tile} → Lying w h t → (short : Bool) (b : Batch) (source target n : ℕ) → answers n ≡ answer_unless short t.ticket b source target
    → ticket_ok (with_batch t.ticket b) ≡ true
unfolding ticket_ok with_batch
ok_after {t = t} k short b source target n e = rw (k.side_w, k.side_h, k.kinds, order_after short t.ticket b source target n e)

same_sides : (t : Ticket) (b : Batch) → ((with_batch t b).w ≡ t.w) × ((with_batch t b).h ≡ t.h)
unfolding with_batch
same_sides t b = (refl, refl)

module _ {width height : ℕ} {p : Plane} (g : Good width height p) where
  -- a batch of tile n, as its ticket answers
  good_marks : (short : Bool) (n : ℕ) (b : Batch) (ls lt : ℕ) → n < 16 → is_open (tile_at p n) ≡ true
      → (a : Answer) → answer_unless short (tile_at p n).ticket b ls lt ≡ a → Good width height (plane_after a (with_marks p n b) p)
  good_marks short n b ls lt small o (refuses k) e = g
  good_marks short n b ls lt small o (answers m) e =
      let t = tile_at p n in
      let s = same_sides t.ticket b in
      record {
        fine = ticket_fine n (with_batch t.ticket b) g.fine small o
            (ok_after (lying (g.fine.keeps.each n small o)) short b ls lt m (sym e)) s.0 s.1;
        wide = g.wide;
        high = g.high;
      }

  -- past 13 and 14
  good_unless : (room n : ℕ) (buffer : List ℤ) (k : Kept) → (n < 16 → is_open (tile_at p n) ≡ true → Good width height k.plane)
      → (a : Answer) → tile_answer p room n ≡ a → Good width height (unless a p buffer k).plane
  good_unless room n buffer k f (refuses j) e = g
  good_unless room n buffer k f (answers m) e = let t = tile_known p room n m (sym e) in f t.small t.is_open_lem

  good_columns : (room n : ℕ) (b : Batch) (residuals scratch : List ℤ) → Good width height (columns_in p room n b residuals scratch).plane
  unfolding columns_in
  good_columns room n b residuals scratch =
      good_unless room n scratch _ (λ l o. good_marks false n b (length residuals) (length scratch) l o _ refl) (tile_answer p room n) refl

  good_rows : (room n : ℕ) (b : Batch) (scratch output : List ℤ) → Good width height (rows_in p room n b scratch output).plane
  unfolding rows_in
  good_rows room n b scratch output =
      good_unless room n output _
      (λ l o.
      good_marks (ltb (length output) (p.w * p.h)) n b (length scratch) (length (tile_of p.w (area_of (tile_at p n)) output)) l o _ refl)
      (tile_answer p room n) refl

  good_close : (room n : ℕ) (a : Answer) → tile_answer p room n ≡ a → Good width height (plane_after a (with_tile p n no_tile) p)
  good_close room n (refuses k) e = g
  good_close room n (answers m) e = record { fine = close_fine n g.fine (tile_known p room n m (sym e)).small; wide = g.wide; high = g.high }

  good_open : (t : Tile) (residuals : List ℤ) (ls lo : ℕ) (a : Answer) → open_answer p t residuals ls lo ≡ a
      → Good width height (plane_after a (with_tile p (first_free p) t) p)
  good_open t residuals ls lo (refuses k) e = g
  good_open t residuals ls lo (answers m) e =
      let k = open_known p t residuals ls lo m (sym e) in
      record { fine = open_fine (first_free p) t g.fine k.small k.valid; wide = g.wide; high = g.high }

pub good_turn : {width height : ℕ} (s : Frame) (c : Call) → Good width height s.plane → Good width height (turn s c).frame.plane
unfolding turn opening closing
good_turn s (opens site residuals scratch) g = good_open g (new_tile site) residuals (length scratch) (length s.output) _ refl
good_turn s (closes room n) g = good_close g room n _ refl
good_turn {width} {height} s (batches room n b residuals scratch) g = go b.row
  where
    go : (row : Bool) → Good width height (cond row (row_turn scratch (rows_in s.plane room n b scratch s.output))
        (column_turn s (columns_in s.plane room n b residuals scratch))).frame.plane
    go true = good_rows g room n b scratch s.output
    go false = good_columns g room n b residuals scratch

pub fine_turn : (s : Frame) (c : Call) → Fine s.plane → Fine (turn s c).frame.plane
fine_turn s c f = (good_turn s c (record { fine = f; wide = refl; high = refl })).fine

pub good_all : {width height : ℕ} (cs : List Call) (s : Frame) → Good width height s.plane → Good width height (frame_after s cs).plane
unfolding frame_after
good_all [] s g = g
good_all (c ∷ cs) s g = good_all cs (turn s c).frame (good_turn s c g)
