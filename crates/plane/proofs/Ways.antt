-- The ways out of a batch of a tile, with its tile named: with all as lent, or with its record changed. Assumes nothing.
use mathlib.Core.Path.{◌≡◌, sym, ap, ◌∙◌}
use mathlib.Core.List.{List}
use Prim.Native.Nat.{ℕ}
use lib.IntN.{ℤ}
use lib.ListN.{length}
use Rattle.answer.specs.Answer.{Answer, answers, refuses, number_of, told}
use Rattle.std.specs.Prelude.{Ok, Err}
use Rattle.answer.specs.declared.Refusal.{Refusal}
use Rattle.tickets.specs.Batch.{batch_answer, lines_of, Given, gives, batch}
use Rattle.tickets.specs.declared.Batch.{Batch}
use Rattle.tickets.specs.declared.Batched.{Batched}
use Rattle.tickets.specs.declared.Ticket.{Ticket}
use Rattle.plane.specs.Batch.{Kept, with_marks, marks, unless, columns_in}
use Rattle.plane.specs.Plane.{tile_at, with_ticket, with_tile, tile_answer}
use Rattle.plane.specs.declared.Plane.{Plane}

abbrev pub gave : Answer → Plane → List ℤ → Kept
gave a p buffer = record { answer = a; plane = p; buffer = buffer }

-- tile: the answer by 13 and 14; a: the answer of the tile's ticket
module _ (p : Plane) {tile a : Answer} (n : ℕ) (e : answers n ≡ tile) (b : Batch) (written buffer : List ℤ) where
  pub not_marked : {k : ℕ} {d : List ℤ} → refuses k ≡ a → d ≡ buffer → gave (refuses k) p d ≡ unless tile p buffer (marks p n b a written buffer)
  not_marked f y = rw (sym e, sym f, y)

  pub is_marked : {m : ℕ} {q : Plane} {d : List ℤ} → answers m ≡ a → q ≡ with_marks p n b → d ≡ written
      → gave (answers m) q d ≡ unless tile p buffer (marks p n b a written buffer)
  is_marked f x y = rw (sym e, sym f, x, y)

-- ---- a column batch, by what its ticket's batch has given back

module _ (p : Plane) (room n : ℕ) (b : Batch) (residuals scratch : List ℤ) (e : answers n ≡ tile_answer p room n) (r : Batched) {d : List ℤ}
    (f : gives r d ≡ batch (tile_at p n).ticket b residuals scratch) where
  abbrev t : Ticket
  t = (tile_at p n).ticket

  answer : told r.outcome ≡ batch_answer t b (length residuals) (length scratch)
  unfolding batch
  answer = ap (λ (g : Given). g.answer) f

  pub columns_refused : {x : Refusal} → r.outcome ≡ Err x → gave (refuses (number_of x)) p d ≡ columns_in p room n b residuals scratch
  unfolding columns_in batch
  columns_refused v =
      let is = sym (ap told v) ∙ answer in
      not_marked p n e b (lines_of t b residuals scratch) scratch is (ap (λ (g : Given). g.buffer) f ∙ rw (sym is))

  pub columns_done : {k : ℕ} → r.outcome ≡ Ok k
      → gave (answers k) (with_tile p n (with_ticket (tile_at p n) r.ticket)) d ≡ columns_in p room n b residuals scratch
  unfolding columns_in batch
  columns_done v =
      let is = sym (ap told v) ∙ answer in
      is_marked p n e b (lines_of t b residuals scratch) scratch is
      (ap (λ (k : Ticket). with_tile p n (with_ticket (tile_at p n) k)) (ap (λ (g : Given). g.ticket) f ∙ rw (sym is)))
      (ap (λ (g : Given). g.buffer) f ∙ rw (sym is))
