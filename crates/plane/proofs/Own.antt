-- A batch that names an open tile's room and number is a batch of its ticket, on its scratch and its places in the plane. Assumes nothing.
use mathlib.Core.Path.{◌≡◌, refl, sym, ap, subst, ◌∙◌}
use mathlib.Core.Bool.{Bool, true, false, cond}
use mathlib.Core.Logic.{⊎_elim}
use mathlib.Core.List.{List}
use Prim.Native.Nat.{ℕ, ◌*◌}
use native.Mathlib.Omega.{arith}
use borrow.Author.Tests.{le-ltb}
use lib.Dec.{ltb}
use lib.IntN.{ℤ}
use lib.ListN.{length}
use Rattle.laws.proofs.Bool.{decided}
use Rattle.laws.proofs.Laid.{length_laid}
use Rattle.answer.specs.Answer.{Answer, answers, refuses, after}
use Rattle.tickets.specs.Batch.{line_length, answer_unless, with_batch, lines_of, ticket_after, batch}
use Rattle.tickets.specs.declared.Batch.{Batch}
use Rattle.tickets.specs.Run.{state_at, Step, step}
use Rattle.tickets.specs.declared.Ticket.{Ticket}
use Rattle.tickets.proofs.Taken.{taken}
use Rattle.tickets.proofs.Step.{step_column, step_row}
use Rattle.previews.proofs.Shown.{ends_in, lines_laid}
use Rattle.plane.specs.Places.{Area, tile_of, put_tile}
use Rattle.plane.specs.Plane.{tile_at, is_open, area_of, with_ticket}
use Rattle.plane.specs.Batch.{Kept, with_marks, marks, unless, columns_in, rows_in}
use Rattle.plane.specs.Calls.{batches, Frame, Turn, column_turn, row_turn, turn}
use Rattle.plane.specs.Condition3.{tile_state}
use Rattle.plane.specs.declared.Plane.{Plane}
use Rattle.plane.specs.declared.Tile.{Tile}
use Rattle.plane.proofs.Places.{length_tile, length_put, tile_put}
use Rattle.plane.proofs.Fine.{Fine, put_same}
use Rattle.plane.proofs.Mine.{Mine, mine_lies, answers_named, state_same}

-- an accepted batch leaves as many numbers as it found
lines_long : (t : Ticket) (b : Batch) (source target : List ℤ) (m : ℕ) → answers m ≡ answer_unless false t b (length source) (length target)
    → length (lines_of t b source target) ≡ length target
lines_long t b source target m e =
    let k = (taken false t b (length source) (length target) m e).0 in
    let n = line_length t.w t.h b.row in
    ap length (lines_laid t b.row b.start b.count source target)
    ∙ length_laid target (b.start * n) (b.count * n) _ (omega (arith, ends_in t b.row b.start b.count k.ends, k.target_long))

-- what a batch of the tile leaves of the rest
pub record Stays (s u : Frame) (n : ℕ) : Type 0 where
  pub is_open_lem : is_open (tile_at u.plane n) ≡ is_open (tile_at s.plane n)
  pub room : (tile_at u.plane n).room ≡ (tile_at s.plane n).room
  pub size : u.plane.w * u.plane.h ≡ s.plane.w * s.plane.h
  pub long : length u.output ≡ length s.output

pub own_mine : {s u : Frame} {room n : ℕ} → Mine s room n → Fine u.plane → Stays s u n → Mine u room n
own_mine m f k =
    record {
      fine = f;
      small = m.small;
      is_open_lem = k.is_open_lem ∙ m.is_open_lem;
      room_is = k.room ∙ m.room_is;
      long = omega (arith, k.size, k.long, m.long);
    }

-- a turn is the ticket's step
pub record Own (residuals scratch : List ℤ) (s : Frame) (n : ℕ) (b : Batch) (t : Turn) : Type 0 where
  pub answer : t.answer ≡ (step residuals (tile_state s scratch n) b).answer
  pub state : tile_state t.frame t.scratch n ≡ (step residuals (tile_state s scratch n) b).state
  pub stays : Stays s t.frame n

module _ {s : Frame} {room n : ℕ} (m : Mine s room n) (b : Batch) (residuals scratch : List ℤ) where
  abbrev p : Plane
  p = s.plane

  abbrev own : Tile
  own = tile_at p n

  abbrev t : Ticket
  t = own.ticket

  abbrev tile : List ℤ
  tile = tile_of p.w (area_of own) s.output

  same_tile : tile_at (with_marks p n b) n ≡ with_ticket own (with_batch t b)
  same_tile = put_same p n (with_ticket own (with_batch t b)) m.fine.many m.small

  same_area : area_of (with_ticket own (with_batch t b)) ≡ area_of own
  unfolding with_batch
  same_area = refl

  area_is : area_of (tile_at (with_marks p n b) n) ≡ area_of own
  area_is = ap area_of same_tile ∙ same_area

  stays_marked : {output : List ℤ} → length output ≡ length s.output → Stays s (record { plane = with_marks p n b; output = output }) n
  stays_marked e = record { is_open_lem = ap is_open same_tile; room = ap (λ (x : Tile). x.room) same_tile; size = refl; long = e }

  -- ---- rows

  abbrev row_kept : Answer → Kept
  row_kept a = marks p n b a (put_tile p.w (area_of own) (lines_of t b scratch tile) s.output) s.output

  row_state : (a : Answer) → answer_unless false t b (length scratch) (length tile) ≡ a
      → tile_state (row_turn scratch (row_kept a)).frame scratch n ≡ state_at (ticket_after a (with_batch t b) t) scratch (after a (lines_of t b scratch tile) tile)
  row_state (refuses k) e = refl
  row_state (answers k) e =
      state_same (ap (λ (x : Tile). x.ticket) same_tile) refl
      (ap (λ (x : Area). tile_of p.w x (put_tile p.w (area_of own) (lines_of t b scratch tile) s.output)) area_is
      ∙ tile_put (lines_of t b scratch tile) s.output (mine_lies m)
      (lines_long t b scratch tile k (sym e) ∙ length_tile p.w (area_of own) s.output))

  row_stays : (a : Answer) → Stays s (row_turn scratch (row_kept a)).frame n
  row_stays (refuses k) = record { is_open_lem = refl; room = refl; size = refl; long = refl }
  row_stays (answers k) = stays_marked (length_put p.w (area_of own) (lines_of t b scratch tile) s.output)

  rows_are : rows_in p room n b scratch s.output ≡ row_kept (answer_unless false t b (length scratch) (length tile))
  unfolding rows_in
  rows_are =
      ap (λ (a : Answer). unless a p s.output (row_kept (answer_unless (ltb (length s.output) (p.w * p.h)) t b (length scratch) (length tile)))) (answers_named m)
      ∙ ap (λ (short : Bool). row_kept (answer_unless short t b (length scratch) (length tile))) (le-ltb (length s.output) (p.w * p.h) m.long)

  own_row : b.row ≡ true → Own residuals scratch s n b (row_turn scratch (row_kept (answer_unless false t b (length scratch) (length tile))))
  unfolding batch
  own_row k =
      let a = answer_unless false t b (length scratch) (length tile) in
      let is = step_row residuals (tile_state s scratch n) b k in
      record {
        answer = sym (ap (λ (x : Step). x.answer) is);
        state = row_state a refl ∙ sym (ap (λ (x : Step). x.state) is);
        stays = row_stays a;
      }

  -- ---- columns

  abbrev column_kept : Answer → Kept
  column_kept a = marks p n b a (lines_of t b residuals scratch) scratch

  column_state : (a : Answer)
      → tile_state (column_turn s (column_kept a)).frame (column_kept a).buffer n
      ≡ state_at (ticket_after a (with_batch t b) t) (after a (lines_of t b residuals scratch) scratch) tile
  column_state (refuses k) = refl
  column_state (answers k) = state_same (ap (λ (x : Tile). x.ticket) same_tile) refl (ap (λ (x : Area). tile_of p.w x s.output) area_is)

  column_stays : (a : Answer) → Stays s (column_turn s (column_kept a)).frame n
  column_stays (refuses k) = record { is_open_lem = refl; room = refl; size = refl; long = refl }
  column_stays (answers k) = stays_marked refl

  columns_are : columns_in p room n b residuals scratch ≡ column_kept (answer_unless false t b (length residuals) (length scratch))
  unfolding columns_in
  columns_are =
      ap (λ (a : Answer). unless a p scratch (column_kept (answer_unless false t b (length residuals) (length scratch)))) (answers_named m)

  own_column : b.row ≡ false → Own residuals scratch s n b (column_turn s (column_kept (answer_unless false t b (length residuals) (length scratch))))
  unfolding batch
  own_column k =
      let a = answer_unless false t b (length residuals) (length scratch) in
      let is = step_column residuals (tile_state s scratch n) b k in
      record {
        answer = sym (ap (λ (x : Step). x.answer) is);
        state = column_state a ∙ sym (ap (λ (x : Step). x.state) is);
        stays = column_stays a;
      }

  -- ---- either

  pub own_turn : Own residuals scratch s n b (turn s (batches room n b residuals scratch))
  unfolding turn
  own_turn =
      ⊎_elim
      (λ k. subst (Own residuals scratch s n b) (sym (by k ∙ ap (row_turn scratch) rows_are)) (own_row k))
      (λ k. subst (Own residuals scratch s n b) (sym (by k ∙ ap (column_turn s) columns_are)) (own_column k))
      (decided b.row)
    where
      by : {is : Bool} → b.row ≡ is
          → cond b.row (row_turn scratch (rows_in p room n b scratch s.output)) (column_turn s (columns_in p room n b residuals scratch))
          ≡ cond is (row_turn scratch (rows_in p room n b scratch s.output)) (column_turn s (columns_in p room n b residuals scratch))
      by e = ap (λ (x : Bool). cond x (row_turn scratch (rows_in p room n b scratch s.output)) (column_turn s (columns_in p room n b residuals scratch))) e
