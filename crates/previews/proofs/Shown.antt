-- What an accepted preview knows of its arguments, what the lines of a batch are, whatever stands in the buffer that they are written to,
-- and what an accepted preview shows. Assumes nothing.
use mathlib.Core.Path.{◌≡◌, refl, sym, ap, ◌∙◌}
use mathlib.Core.Bool.{Bool, true, false, cond, ◌&&◌}
use mathlib.Core.List.{List}
use Prim.Native.Nat.{ℕ, ◌+◌, ◌*◌, ◌/◌, ◌%◌, ◌-◌, ◌≤◌, ◌<◌}
use native.Mathlib.Nat.{add-mul, zero-add, zero-mul, mul_comm, mul-le-mul_left, mul-le-mul_right}
use native.Mathlib.Omega.{arith}
use borrow.Author.Rules.{part_to_end}
use borrow.Author.Tests.{ltb-false}
use lib.Dec.{ltb}
use lib.IntN.{ℤ, pos}
use lib.ListN.{length, get_or, take, drop, length-drop}
use Rattle.laws.specs.Store.{laid}
use Rattle.laws.proofs.Laid.{laid_at, laid_ext}
use Rattle.answer.specs.Answer.{Answer, answers}
use Rattle.std.specs.Prelude.{Ok}
use Rattle.answer.proofs.Answer.{written}
use Rattle.sizes.specs.Size.{is_side}
use Rattle.sizes.proofs.Side.{side_bounds}
use Rattle.sizes.specs.Shift.{first_shift, second_shift}
use Rattle.lines.specs.Pass.{pass_at, pass_lines}
use Rattle.lines.proofs.From.{pass_from}
use Rattle.block.specs.Block.{rescaled}
use Rattle.block.specs.Lines.{column_lines, row_lines}
use Rattle.block.specs.Room.{BlockRoom}
use Rattle.tickets.specs.Batch.{batch_of, is_count, line_count, line_length, answer_unless, batch_answer, lines_of, batch}
use Rattle.tickets.specs.declared.Batch.{Batch}
use Rattle.tickets.specs.declared.Ticket.{Ticket}
use Rattle.tickets.proofs.Taken.{Taken, taken}
use Rattle.previews.specs.Preview.{is_short, preview_answer, Preview, shows, lines_shown, preview_of}

-- ---- an accepted preview

pub record Shown (t : Ticket) (b : Batch) (source target room : ℕ) : Type 0 where
  pub taken : Taken t b source target
  pub long : b.count * line_length t.w t.h b.row ≤ room
  pub answer : answers b.count ≡ preview_answer t b source target room
  pub batch_too : answers b.count ≡ batch_answer t b source target

long_enough : (count n room : ℕ) → is_count count ≡ true → is_short count n room ≡ false → count * n ≤ room
unfolding is_short
long_enough count n room c e = ltb-false room (count * n) (sym (ap (λ (x : Bool). x && ltb room (count * n)) c) ∙ e)

pub accepted : (t : Ticket) (b : Batch) (source target room n : ℕ) → answers n ≡ preview_answer t b source target room → Shown t b source target room
accepted t b source target room n e =
    let side = line_length t.w t.h b.row in
    let k = taken (is_short b.count side room) t b source target n e in
    let is : answers b.count ≡ preview_answer t b source target room = ap answers (sym k.2) ∙ e in
    record {
      taken = k.0;
      long = long_enough b.count side room k.0.counted k.1;
      answer = is;
      batch_too = is ∙ ap (λ (s : Bool). answer_unless s t b source target) k.1;
    }

-- ---- the lines of a batch

-- number p of its lines
abbrev pub number_in : Ticket → Batch → List ℤ → ℕ → ℤ
number_in t b source p =
    cond b.row
    (rescaled t.w t.h (pass_at t.row_kind t.w (second_shift t.w t.h) t.h source (b.start + p / t.w) (p % t.w)))
    (pass_at t.column_kind t.h (first_shift t.w t.h) t.w source (b.start + p / t.h) (p % t.h))

pub lines_laid : (t : Ticket) (row : Bool) (start count : ℕ) (source d : List ℤ) →
    let n = line_length t.w t.h row in
    lines_of t (batch_of row start count) source d ≡ laid d (start * n) (count * n) (number_in t (batch_of row start count) source)
unfolding lines_of row_lines column_lines pass_lines
lines_laid t true start count source d = refl
lines_laid t false start count source d = refl

-- they lie within the buffer
pub ends_in : (t : Ticket) (row : Bool) (start count : ℕ) → start + count ≤ line_count t.w t.h row →
    let n = line_length t.w t.h row in (start * n + count * n ≤ t.w * t.h)
ends_in t true start count e = omega (arith, add-mul start count t.w, mul_comm t.h t.w, mul-le-mul_right t.w e)
ends_in t false start count e = omega (arith, add-mul start count t.h, mul-le-mul_right t.h e)

-- the batch, accepted, has them in the buffer that it writes
module _ (t : Ticket) (b : Batch) (source target : List ℤ) where
  pub ran : {n : ℕ} → answers n ≡ batch_answer t b (length source) (length target) → (batch t b source target).buffer ≡ lines_of t b source target
  unfolding batch
  ran e = rw (sym e)

  pub number_is : {n : ℕ} → Taken t b (length source) (length target) → answers n ≡ batch_answer t b (length source) (length target) → (p : ℕ) →
      let side = line_length t.w t.h b.row in
      p < b.count * side → get_or (batch t b source target).buffer (b.start * side + p) (pos 0) ≡ number_in t b source p
  number_is k e p l =
      let side = line_length t.w t.h b.row in
      ap (λ (x : List ℤ). get_or x (b.start * side + p) (pos 0)) (ran e ∙ lines_laid t b.row b.start b.count source target)
      ∙ laid_at target (b.start * side) (b.count * side) (number_in t b source)
      (omega (arith, ends_in t b.row b.start b.count k.ends, k.target_long)) p (pos 0) l

-- of a source that is lent from the batch's first line on, the same lines are the first
number_from : (t : Ticket) (row : Bool) (start count : ℕ) (source : List ℤ) (p : ℕ)
    → number_in t (batch_of row 0 count) (drop start source) p ≡ number_in t (batch_of row start count) source p
number_from t true start count source p =
    ap (rescaled t.w t.h)
    (pass_from t.row_kind t.w (second_shift t.w t.h) t.h source start (0 + p / t.w) (p % t.w)
    ∙ ap (λ (j : ℕ). pass_at t.row_kind t.w (second_shift t.w t.h) t.h source (start + j) (p % t.w)) (zero-add (p / t.w)))
number_from t false start count source p =
    pass_from t.column_kind t.h (first_shift t.w t.h) t.w source start (0 + p / t.h) (p % t.h)
    ∙ ap (λ (j : ℕ). pass_at t.column_kind t.h (first_shift t.w t.h) t.w source (start + j) (p % t.h)) (zero-add (p / t.h))

-- and go to the front of a buffer
front_lines : (t : Ticket) (row : Bool) (start count : ℕ) (source d : List ℤ) →
    let n = line_length t.w t.h row in
    lines_of t (batch_of row 0 count) (drop start source) d ≡ laid d 0 (count * n) (number_in t (batch_of row start count) source)
front_lines t row start count source d =
    let n = line_length t.w t.h row in
    lines_laid t row 0 count (drop start source) d
    ∙ ap (λ (at : ℕ). laid d at (count * n) (number_in t (batch_of row 0 count) (drop start source))) (zero-mul n)
    ∙ laid_ext d 0 (count * n) _ _ (λ p l. number_from t row start count source p)

-- the batch's first line is one of the source's
pub begins : (t : Ticket) (b : Batch) (source target room n : ℕ) → answers n ≡ preview_answer t b source target room → (b.start ≤ 32) × (b.start ≤ source)
begins t b source target room n e = let k = (accepted t b source target room n e).taken in at b.row t.w t.h b.start b.count k.wide k.high k.ends k.source_long
  where
    at : (row : Bool) (w h start count : ℕ) → is_side w ≡ true → is_side h ≡ true → start + count ≤ line_count w h row → w * h ≤ source
        → (start ≤ 32) × (start ≤ source)
    at true w h start count wide high ends long =
        (omega (arith, ends, side_bounds h high), omega (arith, ends, long, mul-le-mul_right h (side_bounds w wide).low, mul_comm 4 h))
    at false w h start count wide high ends long =
        (omega (arith, ends, side_bounds w wide), omega (arith, ends, long, mul-le-mul_left w (side_bounds h high).low))

-- what is asked of the buffers for them
pub front_asked : (t : Ticket) (b : Batch) (source : List ℤ) {target room : ℕ} → Shown t b (length source) target room
    → BlockRoom t.w t.h (0 + b.count) (line_count t.w t.h b.row) (line_length t.w t.h b.row)
    (length (take (length source - b.start) (drop b.start source))) room
front_asked t b source s =
    let k = s.taken in
    record {
      ends = omega (arith, k.ends);
      source_long = rw (part_to_end source b.start, length-drop b.start source) (omega (arith, k.ends, k.source_long));
      target_long = rw (zero-add b.count) s.long;
    }

-- ---- an accepted preview has shown its lines

pub preview_same : {a a' : Answer} {s s' : List ℤ} → a ≡ a' → s ≡ s' → ◌≡◌ {A = Preview} (record { answer = a; shown = s }) (record { answer = a'; shown = s' })
preview_same p q = rw (p, q)

module _ (t : Ticket) (b : Batch) (source target room : List ℤ) where
  pub is_shown : {shown : List ℤ} → Shown t b (length source) (length target) (length room)
      → shown ≡ lines_of t (batch_of b.row 0 b.count) (take (length source - b.start) (drop b.start source)) room
      → shows (Ok b.count) shown ≡ preview_of t b source target room
  unfolding preview_of
  is_shown {shown} k w =
      let is : shown ≡ lines_shown t b source target room =
      w
      ∙ ap (λ (part : List ℤ). lines_of t (batch_of b.row 0 b.count) part room) (part_to_end source b.start)
      ∙ front_lines t b.row b.start b.count source room
      ∙ laid_ext room 0 (b.count * line_length t.w t.h b.row) _ _ (λ p l. sym (number_is t b source target k.taken k.batch_too p l)) in
      preview_same k.answer (written room k.answer is)
