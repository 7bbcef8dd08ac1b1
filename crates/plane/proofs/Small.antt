-- What a call gives back is a number of 64 bits. Assumes nothing.
use mathlib.Core.Path.{◌≡◌, refl}
use mathlib.Core.Bool.{false}
use mathlib.Core.List.{List}
use Prim.Native.Nat.{ℕ, ◌*◌, ◌<◌, ◌^◌}
use native.Mathlib.Omega.{arith}
use lib.Dec.{T, ltb, lt→ltb}
use lib.IntN.{ℤ}
use lib.ListN.{length}
use Rattle.answer.specs.Answer.{Answer, answers, refuses, is_small}
use Rattle.answer.proofs.Answer.{lowest_small}
use Rattle.tickets.specs.declared.Batch.{Batch}
use Rattle.tickets.proofs.Played.{answer_small}
use Rattle.plane.specs.Batch.{Kept, unless, columns_in, rows_in}
use Rattle.plane.specs.Places.{tile_of}
use Rattle.plane.specs.Plane.{tile_at, area_of, open_answer, tile_answer, make_answer, opening, closing}
use Rattle.plane.specs.declared.Plane.{Plane}
use Rattle.plane.specs.declared.Tile.{Tile}
use Rattle.plane.proofs.Known.{open_known, tile_known}

pub making_small : (w h : ℕ) → T (is_small (make_answer w h))
unfolding make_answer
making_small w h = lowest_small _ 0 (omega arith)

-- an answer that is a tile's number
number_small : (a : Answer) → ((n : ℕ) → answers n ≡ a → n < 16) → T (is_small a)
number_small (answers n) f = lt→ltb n (2 ^ 63) (more (f n refl))
  where
    more : {n : ℕ} → n < 16 → n < 2 ^ 63
    more l = omega arith
number_small (refuses k) f = tt

pub opening_small : (p : Plane) (t : Tile) (residuals : List ℤ) (ls lo : ℕ) → T (is_small (opening p t residuals ls lo).answer)
unfolding opening
opening_small p t residuals ls lo =
    number_small (open_answer p t residuals ls lo)
    (λ n e. let k = open_known p t residuals ls lo n e in omega (arith, k.number, k.small))

pub closing_small : (p : Plane) (room n : ℕ) → T (is_small (closing p room n).answer)
unfolding closing
closing_small p room n =
    number_small (tile_answer p room n) (λ m e. let k = tile_known p room n m e in omega (arith, k.number, k.small))

-- 13 or 14 is small
unless_small : (a : Answer) (p : Plane) (buffer : List ℤ) (k : Kept) → T (is_small k.answer) → T (is_small (unless a p buffer k).answer)
unless_small (answers n) p buffer k t = t
unless_small (refuses j) p buffer k t = tt

pub columns_small : (p : Plane) (room n : ℕ) (b : Batch) (residuals scratch : List ℤ) → T (is_small (columns_in p room n b residuals scratch).answer)
unfolding columns_in
columns_small p room n b residuals scratch =
    unless_small (tile_answer p room n) p scratch _ (answer_small false (tile_at p n).ticket b (length residuals) (length scratch))

pub rows_small : (p : Plane) (room n : ℕ) (b : Batch) (scratch output : List ℤ) → T (is_small (rows_in p room n b scratch output).answer)
unfolding rows_in
rows_small p room n b scratch output =
    unless_small (tile_answer p room n) p output _
    (answer_small (ltb (length output) (p.w * p.h)) (tile_at p n).ticket b (length scratch) (length (tile_of p.w (area_of (tile_at p n)) output)))
