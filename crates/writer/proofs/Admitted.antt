-- What the writer answers by its tests, and what an accepted call knows. Assumes nothing.
use mathlib.Core.Bool.{Bool, true, false, not, ◌||◌, or-true}
use mathlib.Core.List.{List, [], ◌∷◌}
use mathlib.Core.Path.{◌≡◌, sym, ap, ◌∙◌}
use Prim.Native.Nat.{ℕ, ◌*◌, ◌/◌, ◌^◌, min, ◌≤◌, ◌<◌}
use native.Mathlib.Omega.{arith}
use borrow.Author.Tests.{not-true, not-false, ltb-false}
use lib.Dec.{T, ltb}
use lib.IntN.{ℤ}
use lib.ListN.{length, get_or}
use Rattle.laws.proofs.Bool.{neither}
use Rattle.laws.proofs.Divide.{ltb_div}
use Rattle.laws.specs.Table.{every}
use Rattle.answer.proofs.Answer.{passed, small_if, guarded_small}
use Rattle.answer.specs.Answer.{answers, refuses, lowest, is_small}
use Rattle.sizes.specs.Size.{is_side}
use Rattle.format.specs.Format.{bytes_of}
use Rattle.writer.specs.Write.{place_at, blocks_in, length_to, are_sides, is_short, is_rising, by_buffers, write_answer}
use Rattle.writer.proofs.Blocks.{length_to_lem}
use Rattle.format.specs.Pieces.{are_near}

-- ---- number 3, as the code tests it

module _ (count : ℕ) (numbers sides : List ℕ) (levels : List ℤ) (room : ℕ) where
  -- numbers or sides are short
  abbrev pub few : Bool
  few = ltb (length numbers) count || ltb (length sides / 2) count

  -- levels and bytes have room
  abbrev pub roomy : Bool
  roomy = not (ltb (length levels) (place_at sides count) || ltb room (length_to sides levels count))

  few_is : few ≡ (ltb (length numbers) count || ltb (length sides) (2 * count))
  few_is = ap (λ (b : Bool). ltb (length numbers) count || b) (ltb_div (length sides) 2 count (omega arith))

  bytes_is : (ltb (length levels) (place_at sides count) || ltb room (length (bytes_of (blocks_in count numbers sides levels))))
      ≡ (ltb (length levels) (place_at sides count) || ltb room (length_to sides levels count))
  bytes_is = ap (λ (k : ℕ). ltb (length levels) (place_at sides count) || ltb room k) (length_to_lem sides levels numbers count)

  pub short_few : few ≡ true → is_short count numbers sides levels room ≡ true
  short_few e = let u : (ltb (length numbers) count || ltb (length sides) (2 * count)) ≡ true = sym few_is ∙ e in rw u

  pub short_room : roomy ≡ false → is_short count numbers sides levels room ≡ true
  short_room e =
      ap (λ (b : Bool). (ltb (length numbers) count || ltb (length sides) (2 * count)) || b) (bytes_is ∙ not-false _ e)
      ∙ or-true (ltb (length numbers) count || ltb (length sides) (2 * count))

  pub not_short : few ≡ false → roomy ≡ true → is_short count numbers sides levels room ≡ false
  not_short e f =
      let u : (ltb (length numbers) count || ltb (length sides) (2 * count)) ≡ false = sym few_is ∙ e in
      rw u (bytes_is ∙ not-true _ f)

  -- what they say
  pub few_room : few ≡ false → (count ≤ length numbers) × (2 * count ≤ length sides)
  few_room e =
      let n = neither (ltb (length numbers) count) (ltb (length sides / 2) count) e in
      (ltb-false (length numbers) count n.0, omega (arith, ltb-false (length sides / 2) count n.1))

  all_sides : 2 * count ≤ length sides → are_sides count sides ≡ every (2 * count) (λ i. is_side (get_or sides i 0))
  all_sides h = let e : min (2 * count) (length sides) ≡ 2 * count = omega arith in ap (λ (k : ℕ). every k (λ i. is_side (get_or sides i 0))) e

  pub sides_told : 2 * count ≤ length sides → are_sides count sides ≡ true → every (2 * count) (λ i. is_side (get_or sides i 0)) ≡ true
  sides_told h e = sym (all_sides h) ∙ e

  -- ---- what is answered, by the tests that led there

  pub says_1 : are_sides count sides ≡ false → refuses 1 ≡ lowest (by_buffers count numbers sides levels room) 0
  unfolding lowest
  says_1 u = rw u

  module _ (u : are_sides count sides ≡ true) where
    pub says_3 : is_short count numbers sides levels room ≡ true → refuses 3 ≡ lowest (by_buffers count numbers sides levels room) 0
    unfolding lowest
    says_3 v = rw (u, v)

    module _ (v : is_short count numbers sides levels room ≡ false) where
      pub says_11 : are_near (place_at sides count) levels ≡ false → refuses 11 ≡ lowest (by_buffers count numbers sides levels room) 0
      unfolding lowest
      says_11 w = rw (u, v, w)

      pub says_12 : are_near (place_at sides count) levels ≡ true → is_rising count numbers ≡ false → refuses 12 ≡ lowest (by_buffers count numbers sides levels room) 0
      unfolding lowest
      says_12 w x = rw (u, v, w, x)

      pub says_none : are_near (place_at sides count) levels ≡ true → is_rising count numbers ≡ true → answers 0 ≡ lowest (by_buffers count numbers sides levels room) 0
      unfolding lowest
      says_none w x = rw (u, v, w, x)

  -- ---- an accepted call

  pub record Admitted : Type 0 where
    pub many : count ≤ length numbers
    pub pairs : 2 * count ≤ length sides
    pub sided : every (2 * count) (λ i. is_side (get_or sides i 0)) ≡ true
    pub placed : place_at sides count ≤ length levels
    pub fits : length_to sides levels count ≤ room
    pub near : are_near (place_at sides count) levels ≡ true
    pub rising : is_rising count numbers ≡ true

  pub admitted : (m n : ℕ) → answers m ≡ lowest (by_buffers count numbers sides levels room) n → Admitted
  admitted m n e =
      let a = passed _ _ _ _ _ e in
      let b = passed _ _ _ _ _ a.1 in
      let c = passed _ _ _ _ _ b.1 in
      let d = passed _ _ _ _ _ c.1 in
      let s = neither (ltb (length numbers) count || ltb (length sides) (2 * count)) (ltb (length levels) (place_at sides count) || ltb room (length (bytes_of (blocks_in count numbers sides levels)))) b.0 in
      let r = few_room (few_is ∙ s.0) in
      let f = neither (ltb (length levels) (place_at sides count)) (ltb room (length_to sides levels count)) (sym bytes_is ∙ s.1) in
      record {
        many = r.0;
        pairs = r.1;
        sided = sides_told r.1 (not-false _ a.0);
        placed = ltb-false _ _ f.0;
        fits = ltb-false _ _ f.1;
        near = not-false _ c.0;
        rising = not-false _ d.0;
      }

  -- an answer is no larger than the bytes' buffer
  pub write_small : room < 2 ^ 63 → T (is_small (write_answer count numbers sides levels room))
  unfolding write_answer lowest
  write_small h =
      let n = length (bytes_of (blocks_in count numbers sides levels)) in
      let few' = ltb (length numbers) count || ltb (length sides) (2 * count) in
      let short = few' || (ltb (length levels) (place_at sides count) || ltb room n) in
      small_if (not (are_sides count sides)) 1 _
      (λ a.
      guarded_small short 3 ((not (are_near (place_at sides count) levels), 11) ∷ (not (is_rising count numbers), 12) ∷ []) n
      (λ e. omega (arith, ltb-false room n (neither (ltb (length levels) (place_at sides count)) (ltb room n) (neither few' _ e).1).1)))
