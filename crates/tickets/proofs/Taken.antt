-- What an accepted batch knows of its arguments, and the two ways out of a batch: with its lines written and marked, or with
-- everything as given. Assumes nothing.
use mathlib.Core.Path.{◌≡◌, refl, sym}
use mathlib.Core.Bool.{Bool, true, false}
use mathlib.Core.List.{List}
use Prim.Native.Nat.{ℕ, ◌+◌, ◌*◌, ◌≤◌}
use native.Mathlib.Nat.{mul_comm}
use native.Mathlib.Omega.{arith}
use borrow.Author.Tests.{not-false, ltb-false}
use lib.Dec.{ltb}
use lib.IntN.{ℤ}
use lib.ListN.{length}
use Rattle.laws.proofs.Bool.{both, neither}
use Rattle.answer.specs.Answer.{answers, refuses, number_of}
use Rattle.answer.specs.declared.Refusal.{Refusal}
use Rattle.std.specs.Prelude.{Ok, Err}
use Rattle.answer.proofs.Answer.{passed, the_answer}
use Rattle.sizes.specs.Size.{is_side}
use Rattle.sizes.proofs.Side.{side_bounds}
use Rattle.block.specs.Room.{BlockRoom}
use Rattle.block.proofs.Room.{lines_asked}
use Rattle.tickets.specs.Batch.{is_count, line_count, line_length, answer_unless, batch_answer, with_batch, lines_of, gives, batch}
use Rattle.tickets.specs.declared.Batch.{Batch}
use Rattle.tickets.specs.declared.Ticket.{Ticket}
use Rattle.tickets.proofs.Reached.{in_range}

pub record Taken (t : Ticket) (b : Batch) (source target : ℕ) : Type 0 where
  pub wide : is_side t.w ≡ true
  pub high : is_side t.h ≡ true
  pub counted : is_count b.count ≡ true
  pub ends : b.start + b.count ≤ line_count t.w t.h b.row
  pub source_long : t.w * t.h ≤ source
  pub target_long : t.w * t.h ≤ target

-- an accepted batch, which answers its lines: no further buffer is short
pub taken : (short : Bool) (t : Ticket) (b : Batch) (source target n : ℕ) → answers n ≡ answer_unless short t b source target
    → Taken t b source target × (short ≡ false) × (n ≡ b.count)
unfolding answer_unless
taken short t b source target n e =
    let s1 = passed _ 1 _ _ n e in
    let s2 = passed _ 2 _ _ n s1.1 in
    let s3 = passed _ 3 _ _ n s2.1 in
    let s5 = passed _ 5 _ _ n s3.1 in
    let s6 = passed _ 6 _ _ n s5.1 in
    let sides = both (is_side t.w) (is_side t.h) (not-false _ s1.0) in
    let room = neither short _ s3.0 in
    let long = neither (ltb source (t.w * t.h)) (ltb target (t.w * t.h)) room.1 in
    let range = in_range (line_count t.w t.h b.row) b.start b.count s5.0 in
    let known : Taken t b source target =
    record {
      wide = sides.0;
      high = sides.1;
      counted = range.counted;
      ends = range.end;
      source_long = ltb-false source (t.w * t.h) long.0;
      target_long = ltb-false target (t.w * t.h) long.1;
    } in
    (known, room.0, the_answer _ n s6.1)

-- the lines of an accepted batch lie within its buffers
pub batch_room : (t : Ticket) (b : Batch) {source target : ℕ} → Taken t b source target
    → BlockRoom t.w t.h (b.start + b.count) (line_count t.w t.h b.row) (line_length t.w t.h b.row) source target
batch_room t b k = lines_asked k.ends (whole b.row t.w t.h) k.source_long k.target_long
  where
    whole : (row : Bool) (w h : ℕ) → line_count w h row * line_length w h row ≡ w * h
    whole true w h = mul_comm h w
    whole false w h = refl

pub few_lines : (t : Ticket) (b : Batch) {source target : ℕ} → Taken t b source target → b.start + b.count ≤ 32
few_lines t b k = omega (arith, k.ends, count_few b.row (side_bounds _ k.wide).high (side_bounds _ k.high).high)
  where
    count_few : (row : Bool) {w h : ℕ} → w ≤ 32 → h ≤ 32 → line_count w h row ≤ 32
    count_few true a c = c
    count_few false a c = a

module _ (t : Ticket) (b : Batch) (source target : List ℤ) where
  pub refused_is : (r : Refusal) → refuses (number_of r) ≡ batch_answer t b (length source) (length target)
      → gives (record { ticket = t; outcome = Err r }) target ≡ batch t b source target
  unfolding batch
  refused_is r e = rw (sym e)

  pub accepted_is : {n : ℕ} {new : Ticket} {d : List ℤ} → answers n ≡ batch_answer t b (length source) (length target)
      → new ≡ with_batch t b → d ≡ lines_of t b source target → gives (record { ticket = new; outcome = Ok n }) d ≡ batch t b source target
  unfolding batch
  accepted_is e p q = rw (sym e, p, q)
