-- A row batch of a tile: a preview of its lines, put in the tile's places. Assumes nothing.
use mathlib.Core.Path.{◌≡◌, refl, sym, ap, ap₂, ◌∙◌}
use mathlib.Core.Bool.{Bool, true, false, ◌&&◌}
use mathlib.Core.Logic.{⊎_elim}
use mathlib.Core.List.{List}
use Prim.Native.Nat.{ℕ, ◌+◌, ◌*◌, ◌/◌, ◌%◌, ◌≤◌, ◌<◌}
use native.Mathlib.Nat.{le_refl, zero-add, mul_comm, mul-le-mul, mul-le-mul_right, div-add-mod'}
use native.Mathlib.Omega.{arith}
use borrow.Author.Tests.{lt-ltb, le-ltb}
use lib.Dec.{ltb}
use lib.IntN.{ℤ, pos}
use lib.ListN.{length, get_or, replicate}
use Rattle.laws.specs.Store.{grid}
use Rattle.laws.proofs.Bool.{decided}
use Rattle.laws.proofs.Laid.{laid_at, laid_ext}
use Rattle.answer.specs.Answer.{Answer, answers, refuses, number_of, lowest}
use Rattle.std.specs.Prelude.{Ok, Err}
use Rattle.answer.specs.declared.Refusal.{Refusal}
use Rattle.sizes.proofs.Side.{side_bounds}
use Rattle.tickets.specs.Batch.{batch_of, is_count, answer_unless, with_batch, lines_of, batch}
use Rattle.tickets.specs.declared.Batch.{Batch}
use Rattle.tickets.specs.declared.Ticket.{Ticket}
use Rattle.tickets.proofs.Reached.{counted_few}
use Rattle.previews.specs.Preview.{is_short, preview_answer, Preview, shows, lines_shown, preview_of}
use Rattle.previews.proofs.Shown.{Shown, accepted, number_in, lines_laid, number_is}
use Rattle.plane.specs.Batch.{rows_in}
use Rattle.plane.specs.Places.{Area, tile_of, put_tile, plane_place, line_number}
use Rattle.plane.specs.Plane.{tile_at, area_of, with_ticket, with_tile, tile_answer}
use Rattle.plane.specs.declared.Plane.{Plane}
use Rattle.plane.specs.declared.Tile.{Tile}
use Rattle.plane.proofs.Known.{TileKnown, tile_known}
use Rattle.plane.proofs.Places.{Lies, length_tile}
use Rattle.plane.proofs.Put.{rows_put}
use Rattle.plane.proofs.Rules.{Lying, lying, Sides, sides, rules}
use Rattle.plane.proofs.Ways.{gave, not_marked, is_marked}

-- ---- the preview buffer: 256 numbers are enough for every preview of row lines

abbrev zeros : List ℤ
zeros = replicate 256 (pos 0)

enough : (count w : ℕ) → w ≤ 32 → is_short count w 256 ≡ false
unfolding is_short
enough count w l =
    ⊎_elim (λ c. ap₂ ◌&&◌ c (le-ltb 256 (count * w) (mul-le-mul (counted_few count c) l))) (λ c. ap (λ (x : Bool). x && ltb 256 (count * w)) c)
    (decided (is_count count))

-- ---- a plane and its named tile

module _ {p : Plane} {room n m : ℕ} (k : TileKnown p room n m) where
  plane_sides : Sides p.w p.h
  plane_sides = sides (rules p k.valid).sides

  tile_lies : Lying p.w p.h (tile_at p n)
  tile_lies = lying ((rules p k.valid).each n k.small k.is_open_lem)

  pub plane_small : p.w * p.h ≤ 65536
  plane_small = mul-le-mul plane_sides.wide plane_sides.high

-- what is asked for to put the lines there, and to mark them
pub record RowsAsked (p : Plane) (t : Tile) (start count output : ℕ) : Type 0 where
  pub some : 1 ≤ t.ticket.w
  pub long : count * t.ticket.w ≤ 256
  pub across : t.x + t.ticket.w ≤ p.w
  pub down : (t.y + start + count) * p.w ≤ output
  pub low : t.y + start ≤ 256
  pub few : start + count ≤ 32

-- ---- the ways out of a row batch whose tile is named

module _ (p : Plane) (room n start count : ℕ) (scratch output : List ℤ) (e : answers n ≡ tile_answer p room n) where
  abbrev t : Ticket
  t = (tile_at p n).ticket

  abbrev b : Batch
  b = batch_of true start count

  abbrev area : Area
  area = area_of (tile_at p n)

  abbrev tile : List ℤ
  tile = tile_of p.w area output

  -- its ticket's answer, and what it writes
  abbrev rows_answer : Answer
  rows_answer = answer_unless (ltb (length output) (p.w * p.h)) t b (length scratch) (length tile)

  abbrev written : List ℤ
  written = put_tile p.w area (lines_of t b scratch tile) output

  i : Lying p.w p.h (tile_at p n)
  i = tile_lies (tile_known p room n n e)

  short_answer : length output < p.w * p.h → refuses 3 ≡ rows_answer
  unfolding answer_unless lowest
  short_answer l = rw (i.side_w, i.side_h, i.kinds, lt-ltb (length output) (p.w * p.h) l)

  pub rows_short : length output < p.w * p.h → gave (refuses 3) p output ≡ rows_in p room n b scratch output
  unfolding rows_in
  rows_short l = not_marked p n e b written output (short_answer l) refl

  module _ (long : p.w * p.h ≤ length output) where
    lies : Lies p.w p.h area (length output)
    lies = record { some = omega (arith, side_bounds t.w i.side_w); across = i.across; down = i.down; room = long }

    -- the preview is refused as the batch is
    same_answer : preview_answer t b (length scratch) (length output) 256 ≡ rows_answer
    unfolding answer_unless
    same_answer =
        let size : t.w * t.h ≤ p.w * p.h = mul-le-mul (omega (arith, i.across)) (omega (arith, i.down)) in
        rw (
          enough count t.w (side_bounds t.w i.side_w).high,
          le-ltb (length output) (t.w * t.h) (omega arith),
          le-ltb (length output) (p.w * p.h) long,
          length_tile p.w area output,
          le-ltb (t.w * t.h) (t.w * t.h) (le_refl (t.w * t.h)),
        )

    -- what it gives back, and its buffer after it
    pub rows_refused : (x : Refusal) {rows : List ℤ} → shows (Err x) rows ≡ preview_of t b scratch output zeros
        → gave (refuses (number_of x)) p output ≡ rows_in p room n b scratch output
    unfolding rows_in preview_of
    rows_refused x f = not_marked p n e b written output (ap (λ (v : Preview). v.answer) f ∙ same_answer) refl

    module _ {x : ℕ} {rows : List ℤ} (f : shows (Ok x) rows ≡ preview_of t b scratch output zeros) where
      answer : answers x ≡ preview_answer t b (length scratch) (length output) 256
      unfolding preview_of
      answer = ap (λ (v : Preview). v.answer) f

      shown : Shown t b (length scratch) (length output) 256
      shown = accepted t b (length scratch) (length output) 256 x answer

      pub rows_asked : RowsAsked p (tile_at p n) start count (length output)
      rows_asked =
          let ends : start + count ≤ t.h = shown.taken.ends in
          let down : (area.y + start + count) * p.w ≤ p.h * p.w = mul-le-mul_right p.w (omega (arith, i.down)) in
          record {
            some = lies.some;
            long = shown.long;
            across = i.across;
            down = omega (arith, mul_comm p.w p.h);
            low = omega (arith, i.down, (plane_sides (tile_known p room n n e)).high);
            few = omega (arith, side_bounds t.h i.side_h);
          }

      rows_are : rows ≡ lines_shown t b scratch output zeros
      unfolding preview_of
      rows_are = ap (λ (v : Preview). v.shown) f ∙ rw (sym answer)

      number : (q : ℕ) → q < count * t.w → line_number rows t.w (q / t.w) (q % t.w) ≡ number_in t b scratch q
      number q l =
          ap (λ (i : ℕ). get_or rows i (pos 0)) (div-add-mod' q t.w ∙ sym (zero-add q))
          ∙ ap (λ (r : List ℤ). get_or r (0 + q) (pos 0)) rows_are
          ∙ laid_at zeros 0 (count * t.w) (λ q. get_or (batch t b scratch output).buffer (start * t.w + q) (pos 0)) (omega (arith, shown.long)) q (pos 0) l
          ∙ number_is t b scratch output shown.taken shown.batch_too q l

      pub rows_done : {d : List ℤ} → d ≡ grid output count t.w (plane_place p.w area.x (area.y + start)) (line_number rows t.w)
          → gave (answers x) (with_tile p n (with_ticket (tile_at p n) (with_batch t b))) d ≡ rows_in p room n b scratch output
      unfolding rows_in
      rows_done g =
          is_marked p n e b written output (answer ∙ same_answer) refl
          (g
          ∙ rows_put output lies start count shown.taken.ends (line_number rows t.w)
          ∙ ap (λ (l : List ℤ). put_tile p.w area l output)
          (laid_ext tile (start * t.w) (count * t.w) _ (number_in t b scratch) number ∙ sym (lines_laid t true start count scratch tile)))
