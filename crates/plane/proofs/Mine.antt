-- A tile that is open stays as it is through every call that neither is its batch nor closes it. Assumes nothing.
use mathlib.Core.Path.{◌≡◌, refl, sym, ap, ap₂, subst, ◌∙◌}
use mathlib.Core.Bool.{Bool, true, false, cond, ◌&&◌, true≢false}
use mathlib.Core.Logic.{◌≢◌}
use mathlib.Core.List.{List}
use Prim.Native.Nat.{ℕ, ◌*◌, ◌<◌, ◌≤◌}
use native.Mathlib.Omega.{arith}
use borrow.Author.Tests.{eq-eqb, lt-ltb}
use lib.Dec.{eqb, ltb}
use lib.IntN.{ℤ}
use lib.ListN.{length}
use Rattle.answer.specs.Answer.{Answer, answers, refuses, lowest, after}
use Rattle.sizes.proofs.Side.{side_bounds}
use Rattle.tickets.specs.Batch.{answer_unless, lines_of}
use Rattle.tickets.specs.declared.Batch.{Batch}
use Rattle.tickets.specs.Run.{state_at}
use Rattle.tickets.specs.declared.Ticket.{Ticket}
use Rattle.plane.specs.Places.{tile_of, put_tile}
use Rattle.plane.specs.Plane.{no_tile, tile_at, is_open, area_of, new_tile, with_tile, plane_after, first_free, open_answer, open_for, tile_answer, opening, closing}
use Rattle.plane.specs.Batch.{with_marks, marks, unless, columns_in, rows_in}
use Rattle.plane.specs.Calls.{Call, opens, closes, batches, Frame, frame_at, column_turn, row_turn, turn}
use Rattle.plane.specs.Condition3.{names, closes_it, tile_state}
use Rattle.plane.specs.declared.Plane.{Plane}
use Rattle.plane.specs.declared.Tile.{Tile}
use Rattle.plane.proofs.Places.{Lies, length_put, tile_other}
use Rattle.plane.proofs.Rules.{lying}
use Rattle.plane.proofs.Known.{tile_known, open_known}
use Rattle.plane.proofs.Fine.{Fine, fine_ok, put_other, free_closed}

-- tile n is open, and a room's
pub record Mine (s : Frame) (room n : ℕ) : Type 0 where
  pub fine : Fine s.plane
  pub small : n < 16
  pub is_open_lem : is_open (tile_at s.plane n) ≡ true
  pub room_is : (tile_at s.plane n).room ≡ room
  pub long : s.plane.w * s.plane.h ≤ length s.output

module _ {s : Frame} {room n : ℕ} (m : Mine s room n) where
  -- it lies in its plane
  pub mine_lies : Lies s.plane.w s.plane.h (area_of (tile_at s.plane n)) (length s.output)
  mine_lies =
      let k = lying (m.fine.keeps.each n m.small m.is_open_lem) in
      record { some = omega (arith, side_bounds _ k.side_w); across = k.across; down = k.down; room = m.long }

  -- a call of its room that names it is refused neither with 13 nor with 14
  pub answers_named : tile_answer s.plane room n ≡ answers n
  unfolding tile_answer open_for lowest
  answers_named =
      let few : room < 2 = subst (λ (r : ℕ). r < 2) m.room_is (lying (m.fine.keeps.each n m.small m.is_open_lem)).few in
      rw (lt-ltb room 2 few, fine_ok m.fine, lt-ltb n 16 m.small, m.is_open_lem, eq-eqb (tile_at s.plane n).room room m.room_is)

pub state_same : {t t' : Ticket} {d d' e e' : List ℤ} → t ≡ t' → d ≡ d' → e ≡ e' → state_at t d e ≡ state_at t' d' e'
state_same p q r = rw (p, q, r)

-- ---- what a call that doesn't touch the tile leaves of it

pub record Same (s u : Frame) (n : ℕ) : Type 0 where
  pub tile : tile_at u.plane n ≡ tile_at s.plane n
  pub wide : u.plane.w ≡ s.plane.w
  pub high : u.plane.h ≡ s.plane.h
  pub long : length u.output ≡ length s.output
  pub output : tile_of s.plane.w (area_of (tile_at s.plane n)) u.output ≡ tile_of s.plane.w (area_of (tile_at s.plane n)) s.output

pub same_state : (s u : Frame) (scratch : List ℤ) (n : ℕ) → Same s u n → tile_state u scratch n ≡ tile_state s scratch n
same_state s u scratch n k =
    state_same (ap (λ (t : Tile). t.ticket) k.tile) refl
    (ap₂ (λ (w : ℕ) (t : Tile). tile_of w (area_of t) u.output) k.wide k.tile ∙ k.output)

pub same_mine : {s u : Frame} {room n : ℕ} → Mine s room n → Fine u.plane → Same s u n → Mine u room n
same_mine {s} {u} m f k =
    record {
      fine = f;
      small = m.small;
      is_open_lem = ap is_open k.tile ∙ m.is_open_lem;
      room_is = ap (λ (t : Tile). t.room) k.tile ∙ m.room_is;
      long = let e = ap₂ ◌*◌ k.wide k.high in omega (arith, k.long, m.long);
    }

module _ {s : Frame} {room n : ℕ} (m : Mine s room n) where
  abbrev p : Plane
  p = s.plane

  -- nothing is changed
  unchanged : Same s (frame_at p s.output) n
  unchanged = record { tile = refl; wide = refl; high = refl; long = refl; output = refl }

  -- a tile is put at another number
  put : (i : ℕ) (t : Tile) → i < 16 → n ≢ i → Same s (frame_at (with_tile p i t) s.output) n
  put i t small d = record { tile = put_other p i t m.fine.many small n d; wide = refl; high = refl; long = refl; output = refl }

  -- a tile that a call reaches is another, unless the call names this one's room and number
  another : (r i j : ℕ) → answers j ≡ tile_answer p r i → (eqb r room && eqb i n) ≡ false → n ≢ i
  another r i j e f u =
      let same : r ≡ room = sym (tile_known p r i j e).room_is ∙ ap (λ (q : ℕ). (tile_at p q).room) (sym u) ∙ m.room_is in
      true≢false (sym (ap₂ ◌&&◌ (eq-eqb r room same) (eq-eqb i n (sym u))) ∙ f)

  -- an opening gives another number
  after_open : (t : Tile) (res : List ℤ) (ls : ℕ) (a : Answer) → open_answer p t res ls (length s.output) ≡ a
      → Same s (frame_at (plane_after a (with_tile p (first_free p) t) p) s.output) n
  after_open t res ls (refuses j) e = unchanged
  after_open t res ls (answers j) e =
      let k = open_known p t res ls (length s.output) j (sym e) in
      put (first_free p) t k.small
      (λ u. true≢false (sym m.is_open_lem ∙ ap (λ (i : ℕ). is_open (tile_at p i)) u ∙ free_closed p k.small))

  after_close : (r i : ℕ) → (eqb r room && eqb i n) ≡ false → (a : Answer) → tile_answer p r i ≡ a
      → Same s (frame_at (plane_after a (with_tile p i no_tile) p) s.output) n
  after_close r i f (refuses j) e = unchanged
  after_close r i f (answers j) e = put i no_tile (tile_known p r i j (sym e)).small (another r i j (sym e) f)

  after_columns : (r i : ℕ) (b : Batch) (res scr : List ℤ) → (eqb r room && eqb i n) ≡ false → (a : Answer) → tile_answer p r i ≡ a →
      let t = (tile_at p i).ticket in
      Same s (column_turn s (unless a p scr (marks p i b (answer_unless false t b (length res) (length scr)) (lines_of t b res scr) scr))).frame n
  after_columns r i b res scr f (refuses j) e = unchanged
  after_columns r i b res scr f (answers j) e =
      go (answer_unless false (tile_at p i).ticket b (length res) (length scr))
    where
      go : (a : Answer) → Same s (frame_at (plane_after a (with_marks p i b) p) s.output) n
      go (refuses k) = unchanged
      go (answers k) = put i _ (tile_known p r i j (sym e)).small (another r i j (sym e) f)

  after_rows : (r i : ℕ) (b : Batch) (scr : List ℤ) → (eqb r room && eqb i n) ≡ false → (a : Answer) → tile_answer p r i ≡ a →
      let t = tile_at p i in
      let tile = tile_of p.w (area_of t) s.output in
      Same s
      (row_turn scr (unless a p s.output
      (marks p i b (answer_unless (ltb (length s.output) (p.w * p.h)) t.ticket b (length scr) (length tile))
      (put_tile p.w (area_of t) (lines_of t.ticket b scr tile) s.output) s.output))).frame
      n
  after_rows r i b scr f (refuses j) e = unchanged
  after_rows r i b scr f (answers j) e =
      go (answer_unless (ltb (length s.output) (p.w * p.h)) (tile_at p i).ticket b (length scr) (length (tile_of p.w (area_of (tile_at p i)) s.output)))
      (lines_of (tile_at p i).ticket b scr (tile_of p.w (area_of (tile_at p i)) s.output))
    where
      go : (a : Answer) (l : List ℤ)
          → Same s (frame_at (plane_after a (with_marks p i b) p) (after a (put_tile p.w (area_of (tile_at p i)) l s.output) s.output)) n
      go (refuses k) l = unchanged
      go (answers k) l =
          let v = tile_known p r i j (sym e) in
          let d = another r i j (sym e) f in
          record {
            tile = (put i _ v.small d).tile;
            wide = refl;
            high = refl;
            long = length_put p.w (area_of (tile_at p i)) l s.output;
            output =
                tile_other (area_of (tile_at p i)) l s.output (mine_lies m)
                (m.fine.keeps.apart i n v.small m.small (λ u. d (sym u)) v.is_open_lem m.is_open_lem);
          }

  -- a call that neither is a batch of the tile nor closes it
  pub others : (c : Call) → names room n c ≡ false → closes_it room n c ≡ false → Same s (turn s c).frame n
  unfolding turn opening closing columns_in rows_in
  others (opens site res scratch) e f = after_open (new_tile site) res (length scratch) _ refl
  others (closes r i) e f = after_close r i f _ refl
  others (batches r i b res scr) e f = go b.row
    where
      go : (row : Bool) → Same s (cond row (row_turn scr (rows_in p r i b scr s.output)) (column_turn s (columns_in p r i b res scr))).frame n
      go true = after_rows r i b scr e _ refl
      go false = after_columns r i b res scr e _ refl
