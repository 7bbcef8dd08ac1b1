-- Isolation: what a room is shown is what its deeds alone show it, replayed on a record of their own. Assumes nothing.
use mathlib.Core.Path.{◌≡◌, refl, sym, ap, ap₂, ◌∙◌}
use mathlib.Core.Bool.{Bool, true, false, cond}
use mathlib.Core.Logic.{⊎_elim}
use mathlib.Core.List.{List, [], ◌∷◌, ◌++◌}
use Prim.Native.Nat.{ℕ, ◌*◌, ◌<◌}
use lib.Dec.{eqb, ltb}
use lib.IntN.{ℤ, pos}
use lib.ListN.{length, replicate, length-replicate}
use Rattle.laws.proofs.Bool.{decided}
use Rattle.answer.specs.Answer.{Answer, answers, refuses}
use Rattle.tickets.specs.Batch.{answer_unless}
use Rattle.tickets.specs.declared.Batch.{Batch}
use Rattle.plane.specs.Plane.{no_tile, tile_at, area_of, new_tile, with_tile, plane_ok, plane_after, made, first_free, open_answer, tile_answer, opening, closing}
use Rattle.plane.specs.Batch.{with_marks, marks, unless, columns_in, rows_in}
use Rattle.plane.specs.Calls.{Call, opens, closes, batches, frame_at, Turn, plan_turn, column_turn, row_turn, turn}
use Rattle.plane.specs.Isolation.{Lent, next, room_of, Deed, own, opened, closed, deed_of, deeds_for, Shown, shown, shown_to, Isolation}
use Rattle.plane.specs.declared.Plane.{Plane}
use Rattle.plane.specs.declared.Site.{Site}
use Rattle.plane.specs.declared.Tile.{Tile}
use Rattle.plane.proofs.Places.{length_tile}
use Rattle.plane.proofs.Known.{tile_known, open_known}
use Rattle.plane.proofs.Fine.{Fine, made_fine, close_fine, open_fine}
use Rattle.plane.proofs.Turns.{fine_turn}
use Rattle.plane.proofs.Alike.{Like, like_refl, put_like, marked_like, free_same, tile_same, open_same, own_same, shown_same}

-- ---- a call of the room, on two records that it can't tell apart and outputs of one length

-- what the room has of it, and what is left
record Told (r : ℕ) (s t : Turn) : Type 0 where
  answer : s.answer ≡ t.answer
  like : Like r s.frame.plane t.frame.plane

module _ {r : ℕ} {p q : Plane} (f : Fine p) (g : Fine q) (k : Like r p q) where
  -- an accepted call that puts a tile in both
  after_like : (n : ℕ) (t : Tile) (a : Answer) → ((m : ℕ) → a ≡ answers m → n < 16)
      → Like r (plane_after a (with_tile p n t) p) (plane_after a (with_tile q n t) q)
  after_like n t (answers m) small = put_like f g k n t (small m refl)
  after_like n t (refuses j) small = k

  told_open : (t : Tile) (residuals scratch : List ℤ) (o o' : List ℤ) → length o ≡ length o'
      → Told r (plan_turn (frame_at p o) scratch (opening p t residuals (length scratch) (length o)))
      (plan_turn (frame_at q o') scratch (opening q t residuals (length scratch) (length o')))
  unfolding opening
  told_open t residuals scratch o o' e =
      let a = open_answer p t residuals (length scratch) (length o) in
      let same : a ≡ open_answer q t residuals (length scratch) (length o') =
      open_same f g k t residuals (length scratch) (length o) ∙ ap (open_answer q t residuals (length scratch)) e in
      record {
        answer = same;
        like = rw (sym same, sym (free_same f g k))
            (after_like (first_free p) t a (λ m u. (open_known p t residuals (length scratch) (length o) m (sym u)).small));
      }

  told_close : (room n : ℕ) (o o' : List ℤ) → Told r (plan_turn (frame_at p o) [] (closing p room n)) (plan_turn (frame_at q o') [] (closing q room n))
  unfolding closing
  told_close room n o o' =
      let same = tile_same f g k room n in
      record {
        answer = same;
        like = rw (sym same) (after_like n no_tile (tile_answer p room n) (λ m u. (tile_known p room n m (sym u)).small));
      }

  -- a batch of the room: past 13 and 14 its tile is the same in both
  told_marks : (n : ℕ) (b : Batch) (a : Answer) → n < 16 → tile_at p n ≡ tile_at q n
      → Like r (plane_after a (with_marks p n b) p) (plane_after a (with_marks q n b) q)
  told_marks n b (refuses j) small e = k
  told_marks n b (answers m) small e = rw (sym e) (put_like f g k n _ small)

  told_batch : (room n : ℕ) (b : Batch) (x y : Answer) (w v o o' : List ℤ) → eqb room r ≡ true → (tile_at p n ≡ tile_at q n → x ≡ y) →
      let s = unless (tile_answer p room n) p o (marks p n b x w o) in
      let t = unless (tile_answer q room n) q o' (marks q n b y v o') in
      (s.answer ≡ t.answer) × Like r s.plane t.plane
  told_batch room n b x y w v o o' e same = rw (sym (tile_same f g k room n)) (go (tile_answer p room n) refl)
    where
      go : (a : Answer) → tile_answer p room n ≡ a →
          let s = unless a p o (marks p n b x w o) in
          let t = unless a q o' (marks q n b y v o') in
          (s.answer ≡ t.answer) × Like r s.plane t.plane
      go (refuses j) u = (refl, k)
      go (answers m) u =
          let i = own_same f g k room n m e (sym u) in
          (same i, rw (sym (same i)) (told_marks n b x (tile_known p room n m (sym u)).small i))

  told_columns : (room n : ℕ) (b : Batch) (residuals scratch o o' : List ℤ) → eqb room r ≡ true
      → Told r (column_turn (frame_at p o) (columns_in p room n b residuals scratch)) (column_turn (frame_at q o') (columns_in q room n b residuals scratch))
  unfolding columns_in
  told_columns room n b residuals scratch o o' e =
      let t =
      told_batch room n b _ _ _ _ scratch scratch e
      (λ i. ap (λ (x : Tile). answer_unless false x.ticket b (length residuals) (length scratch)) i) in
      record { answer = t.0; like = t.1 }

  -- a row batch goes by the length of the output alone
  told_rows : (room n : ℕ) (b : Batch) (scratch o o' : List ℤ) → length o ≡ length o' → eqb room r ≡ true
      → Told r (row_turn scratch (rows_in p room n b scratch o)) (row_turn scratch (rows_in q room n b scratch o'))
  unfolding rows_in
  told_rows room n b scratch o o' l e =
      let t =
      told_batch room n b _ _ _ _ o o' e
      (λ i.
      ap₂ (λ (short : Bool) (size : ℕ). answer_unless short (tile_at p n).ticket b (length scratch) size)
      (ap₂ (λ (m size : ℕ). ltb m size) l (ap₂ ◌*◌ k.wide k.high)) (length_tile p.w (area_of (tile_at p n)) o)
      ∙ ap (λ (x : Tile). answer_unless (ltb (length o') (q.w * q.h)) x.ticket b (length scratch) (x.ticket.w * x.ticket.h)) i
      ∙ ap (answer_unless (ltb (length o') (q.w * q.h)) (tile_at q n).ticket b (length scratch)) (sym (length_tile q.w (area_of (tile_at q n)) o'))) in
      record { answer = t.0; like = t.1 }

  told : (c : Call) (o o' : List ℤ) → length o ≡ length o' → eqb (room_of c) r ≡ true → Told r (turn (frame_at p o) c) (turn (frame_at q o') c)
  unfolding turn
  told (opens site residuals scratch) o o' l e = told_open (new_tile site) residuals scratch o o' l
  told (closes room n) o o' l e = told_close room n o o'
  told (batches room n b residuals scratch) o o' l e = go b.row
    where
      go : (row : Bool) → Told r
          (cond row (row_turn scratch (rows_in p room n b scratch o)) (column_turn (frame_at p o) (columns_in p room n b residuals scratch)))
          (cond row (row_turn scratch (rows_in q room n b scratch o')) (column_turn (frame_at q o') (columns_in q room n b residuals scratch)))
      go true = told_rows room n b scratch o o' l e
      go false = told_columns room n b residuals scratch o o' e

  -- ---- a batch of the other room: the room can't tell what it leaves

  after_marks : (n : ℕ) (b : Batch) (a : Answer) → n < 16 → eqb (tile_at p n).room r ≡ false → Like r (plane_after a (with_marks p n b) p) q
  after_marks n b (refuses j) small e = k
  after_marks n b (answers m) small e = marked_like f g k n b small e

  after_batch : (room n : ℕ) (b : Batch) (x : Answer) (w o : List ℤ) → eqb room r ≡ false → (a : Answer) → tile_answer p room n ≡ a
      → Like r (unless a p o (marks p n b x w o)).plane q
  after_batch room n b x w o e (refuses j) u = k
  after_batch room n b x w o e (answers m) u =
      let v = tile_known p room n m (sym u) in after_marks n b x v.small (ap (λ (i : ℕ). eqb i r) v.room_is ∙ e)

  unseen : (room n : ℕ) (b : Batch) (residuals scratch o : List ℤ) → eqb room r ≡ false
      → Like r (turn (frame_at p o) (batches room n b residuals scratch)).frame.plane q
  unfolding turn columns_in rows_in
  unseen room n b residuals scratch o e = go b.row
    where
      go : (row : Bool) → Like r
          (cond row (row_turn scratch (rows_in p room n b scratch o)) (column_turn (frame_at p o) (columns_in p room n b residuals scratch))).frame.plane q
      go true = after_batch room n b _ _ o e (tile_answer p room n) refl
      go false = after_batch room n b _ _ scratch e (tile_answer p room n) refl

-- ---- deeds replayed

-- what a room is shown of its deeds, on a record that has no other's marks; an output of zeros stands for the lent one
unfoldable replay : ℕ → Plane → List Deed → List Shown
replay r q [] = []
replay r q (own c n ∷ ds) = let t = turn (frame_at q (replicate n (pos 0))) c in shown r t ∷ replay r t.frame.plane ds
replay r q (opened site ∷ ds) = replay r (with_tile q (first_free q) (new_tile site)) ds
replay r q (closed n ∷ ds) = replay r (with_tile q n no_tile) ds

module _ (r : ℕ) where
  abbrev Replayed : List Lent → Type 0
  Replayed ls = (p q : Plane) → Fine p → Fine q → Like r p q → shown_to r p ls ≡ replay r q (deeds_for r p ls)

  -- a call of the room first
  own_first : (l : Lent) (ls : List Lent) → Replayed ls → (p q : Plane) → Fine p → Fine q → Like r p q → eqb (room_of l.call) r ≡ true
      → shown r (next p l) ∷ shown_to r (next p l).frame.plane ls
      ≡ replay r q (own l.call (length l.output) ∷ deeds_for r (next p l).frame.plane ls)
  unfolding replay
  own_first l ls ih p q f g k e =
      let blank = replicate (length l.output) (pos 0) in
      let t = told f g k l.call l.output blank (sym (length-replicate (length l.output) (pos 0))) e in
      ap₂ (λ (x : Shown) (xs : List Shown). x ∷ xs)
      (ap₂ (λ (a : Answer) (ts : List Tile). record { answer = a; tiles = ts }) t.answer (shown_same t.like))
      (ih (next p l).frame.plane (turn (frame_at q blank) l.call).frame.plane (fine_turn (frame_at p l.output) l.call f)
      (fine_turn (frame_at q blank) l.call g) t.like)

  -- a call of the other room first
  opened_first : (site : Site) (residuals scratch o : List ℤ) (ls : List Lent) → Replayed ls → (p q : Plane) → Fine p → Fine q → Like r p q
      → (a : Answer) → open_answer p (new_tile site) residuals (length scratch) (length o) ≡ a →
      let p' = plane_after a (with_tile p (first_free p) (new_tile site)) p in
      shown_to r p' ls ≡ replay r q (deed_of (opens site residuals scratch) a ++ deeds_for r p' ls)
  unfolding replay
  opened_first site residuals scratch o ls ih p q f g k (refuses j) e = ih p q f g k
  opened_first site residuals scratch o ls ih p q f g k (answers m) e =
      let t = new_tile site in
      let n = first_free p in
      let v = open_known p t residuals (length scratch) (length o) m (sym e) in
      let v' = open_known q t residuals (length scratch) (length o) m (sym e ∙ open_same f g k t residuals (length scratch) (length o)) in
      let same = free_same f g k in
      ih (with_tile p n t) (with_tile q n t) (open_fine n t f v.small v.valid)
      (open_fine n t g v.small (ap (λ (i : ℕ). plane_ok (with_tile q i t)) same ∙ v'.valid)) (put_like f g k n t v.small)
      ∙ ap (λ (i : ℕ). replay r (with_tile q i t) (deeds_for r (with_tile p n t) ls)) same

  closed_first : (room n : ℕ) (ls : List Lent) → Replayed ls → (p q : Plane) → Fine p → Fine q → Like r p q
      → (a : Answer) → tile_answer p room n ≡ a →
      let p' = plane_after a (with_tile p n no_tile) p in shown_to r p' ls ≡ replay r q (deed_of (closes room n) a ++ deeds_for r p' ls)
  unfolding replay
  closed_first room n ls ih p q f g k (refuses j) e = ih p q f g k
  closed_first room n ls ih p q f g k (answers m) e =
      let small = (tile_known p room n m (sym e)).small in
      ih (with_tile p n no_tile) (with_tile q n no_tile) (close_fine n f small) (close_fine n g small) (put_like f g k n no_tile small)

  other_first : (c : Call) (o : List ℤ) (ls : List Lent) → Replayed ls → (p q : Plane) → Fine p → Fine q → Like r p q → eqb (room_of c) r ≡ false →
      let t = turn (frame_at p o) c in shown_to r t.frame.plane ls ≡ replay r q (deed_of c t.answer ++ deeds_for r t.frame.plane ls)
  unfolding turn opening closing
  other_first (opens site residuals scratch) o ls ih p q f g k e = opened_first site residuals scratch o ls ih p q f g k _ refl
  other_first (closes room n) o ls ih p q f g k e = closed_first room n ls ih p q f g k _ refl
  other_first (batches room n b residuals scratch) o ls ih p q f g k e =
      ih (turn (frame_at p o) (batches room n b residuals scratch)).frame.plane q (fine_turn (frame_at p o) (batches room n b residuals scratch) f) g
      (unseen f g k room n b residuals scratch o e)

  replayed : (ls : List Lent) → Replayed ls
  unfolding shown_to deeds_for replay
  replayed [] p q f g k = refl
  replayed (l ∷ ls) p q f g k =
      ⊎_elim
      (λ e. rw e (own_first l ls (replayed ls) p q f g k e))
      (λ e. rw e (other_first l.call l.output ls (replayed ls) p q f g k e))
      (decided (eqb (room_of l.call) r))

pub isolation : Isolation
isolation w h r ok ls ms e = each ls ∙ ap (replay r (made w h)) e ∙ sym (each ms)
  where
    each : (ls : List Lent) → shown_to r (made w h) ls ≡ replay r (made w h) (deeds_for r (made w h) ls)
    each ls = let f = made_fine w h ok in replayed r ls (made w h) (made w h) f f (like_refl (made w h))
