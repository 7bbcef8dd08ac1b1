-- A preview beside its batch, from the definitions. Assumes nothing.
use mathlib.Core.Path.{◌≡◌, refl, sym, ap, ◌∙◌}
use mathlib.Core.Bool.{Bool, true, false, ◌||◌}
use mathlib.Core.List.{List, [], ◌∷◌}
use Prim.Native.Nat.{ℕ, ◌+◌, ◌-◌, ◌*◌, ◌≤◌, ◌<◌}
use native.Mathlib.Nat.{zero-add, add-mul}
use native.Mathlib.Omega.{arith}
use lib.Arith.{digits_lt}
use lib.IntN.{ℤ, pos}
use lib.ListN.{length, get_or}
use Rattle.laws.proofs.Laid.{length_laid, laid_at, laid_after}
use Rattle.answer.specs.Answer.{Answer, answers, refuses, lowest, after}
use Rattle.tickets.specs.Batch.{line_length, answer_unless, batch}
use Rattle.tickets.specs.declared.Batch.{Batch}
use Rattle.tickets.specs.declared.Ticket.{Ticket}
use Rattle.previews.specs.Preview.{is_short, preview_answer, lines_shown, preview_of}
use Rattle.previews.specs.OnCopies.{BesideBatch, OnCopies, short_too}
use Rattle.previews.proofs.Shown.{accepted}

-- the five tests of a batch, with a buffer more that is short
short_too_lem : (a b c d e : Bool) (n : ℕ)
    → lowest ((a, 1) ∷ (b, 2) ∷ (true || c, 3) ∷ (d, 5) ∷ (e, 6) ∷ []) n ≡ short_too (lowest ((a, 1) ∷ (b, 2) ∷ (false || c, 3) ∷ (d, 5) ∷ (e, 6) ∷ []) n)
unfolding lowest
short_too_lem true b c d e n = refl
short_too_lem false true c d e n = refl
short_too_lem false false true d e n = refl
short_too_lem false false false true e n = refl
short_too_lem false false false false true n = refl
short_too_lem false false false false false n = refl

module _ (t : Ticket) (b : Batch) (source target room : List ℤ) where
  abbrev side : ℕ
  side = line_length t.w t.h b.row

  abbrev answer : Answer
  answer = preview_answer t b (length source) (length target) (length room)

  abbrev shown : List ℤ
  shown = after answer (lines_shown t b source target room) room

  by_buffer : {s : Bool} → is_short b.count side (length room) ≡ s → answer ≡ answer_unless s t b (length source) (length target)
  by_buffer e = ap (λ (s : Bool). answer_unless s t b (length source) (length target)) e

  short_answer : answer_unless true t b (length source) (length target) ≡ short_too (answer_unless false t b (length source) (length target))
  unfolding answer_unless
  short_answer = short_too_lem _ _ _ _ _ b.count

  shown_is : {m : ℕ} → answer ≡ answers m → shown ≡ lines_shown t b source target room
  shown_is e = rw e

  room_long : {m : ℕ} → answer ≡ answers m → b.count * side ≤ length room
  room_long {m} e = (accepted t b (length source) (length target) (length room) m (sym e)).long

  line_is : {m : ℕ} (i f : ℕ) → answer ≡ answers m → i < b.count → f < side
      → get_or shown (i * side + f) (pos 0) ≡ get_or (batch t b source target).buffer ((b.start + i) * side + f) (pos 0)
  line_is i f e bi bf =
      ap (λ (d : List ℤ). get_or d (i * side + f) (pos 0)) (shown_is e)
      ∙ ap (λ (q : ℕ). get_or (lines_shown t b source target room) q (pos 0)) (sym (zero-add (i * side + f)))
      ∙ laid_at room 0 (b.count * side) _ (omega (arith, room_long e)) (i * side + f) (pos 0) (digits_lt bi bf)
      ∙ ap (λ (q : ℕ). get_or (batch t b source target).buffer q (pos 0)) (omega (arith, add-mul b.start i side))

  rest_is : {m : ℕ} (p : ℕ) → answer ≡ answers m → b.count * side ≤ p → get_or shown p (pos 0) ≡ get_or room p (pos 0)
  rest_is p e past =
      let at : p ≡ 0 + b.count * side + (p - b.count * side) = omega arith in
      ap (λ (d : List ℤ). get_or d p (pos 0)) (shown_is e)
      ∙ ap (λ (q : ℕ). get_or (lines_shown t b source target room) q (pos 0)) at
      ∙ laid_after room 0 (b.count * side) _ (omega (arith, room_long e)) (p - b.count * side) (pos 0)
      ∙ ap (λ (q : ℕ). get_or room q (pos 0)) (sym at)

  shown_long : (a : Answer) → answer ≡ a → length shown ≡ length room
  shown_long (answers m) e = ap length (shown_is e) ∙ length_laid room 0 (b.count * side) _ (omega (arith, room_long e))
  shown_long (refuses k) e = ap (λ (a : Answer). length (after a (lines_shown t b source target room) room)) e

  beside_batch : BesideBatch t b source target room
  unfolding preview_of batch
  beside_batch =
      record {
        same_answer = by_buffer;
        short_answer = λ e. by_buffer e ∙ short_answer;
        lines = λ m i f e bi bf. line_is i f e bi bf;
        rest = λ m p e past. rest_is p e past;
        long = shown_long answer refl;
        refused = λ k e. ap (λ (a : Answer). after a (lines_shown t b source target room) room) e;
      }

pub on_copies : OnCopies
on_copies = beside_batch
