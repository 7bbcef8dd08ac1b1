-- One record, both ways: what is read of a block's bytes, and that an accepted record is its block's bytes. Assumes nothing.
use mathlib.Core.Bool.{Bool, true, false, cond, ◌&&◌}
use mathlib.Core.List.{List, [], ◌∷◌, ◌++◌}
use mathlib.Core.Logic.{◌⊎◌, inl, inr, ⊎_elim}
use mathlib.Core.Path.{◌≡◌, sym, ap, ap₂, subst, ◌∙◌}
use Prim.Native.Nat.{ℕ, suc, ◌+◌, ◌*◌, ◌/◌, ◌^◌, ◌≤◌, ◌<◌}
use native.Mathlib.Omega.{arith}
use lib.Dec.{ltb}
use borrow.Author.Tests.{ltb-true, ltb-false, leb-true, eqb-true, lt-ltb, le-ltb, eq-eqb, not-false}
use lib.IntN.{ℤ, pos, negsuc, nat_abs}
use lib.ListN.{length, get_or, length-append}
use Rattle.laws.proofs.Bool.{both, neither, decided}
use Rattle.laws.proofs.Every.{every_all, every_each}
use Rattle.laws.proofs.Laid.{length_tab, get_or_tab, tab_ext}
use Rattle.laws.proofs.Pasted.{tab_get_or}
use Rattle.laws.specs.Store.{tab}
use Rattle.answer.proofs.Answer.{no_answer, passed, the_answer}
use Rattle.answer.specs.Answer.{answers, refuses, lowest}
use Rattle.sizes.specs.Size.{is_side}
use Rattle.format.specs.Pieces.{Bytes, is_near, stands, word_of, of_word, four, side_byte, width_of, height_of, map_of, listed, number_at}
use Rattle.format.specs.Format.{Block, level_of, record_of, is_block, width_in, height_in, places_in, bit_in, count_in, listed_in, level_in, length_in, block_in, is_cut, is_bad, record_answer}
use Rattle.format.proofs.Bits.{map_length, bits_read, bits_made}
use Rattle.format.proofs.Listed.{standing_same, standing_within, standing_find, listed_length, listed_part, listed_made}
use Rattle.format.proofs.Number.{number_read, number_made, number_small, word_small, word_read, word_back}
use Rattle.laws.proofs.Part.{Part, part_left, part_right, part_both, part_get, part_at, part_made, part_room}
use Rattle.format.proofs.Sides.{wide_side, high_side, wide_back, high_back, byte_small, byte_back, sized, sized_in}

-- ---- what a block is

pub record Whole (b : Block) : Type 0 where
  pub small : b.number < 2 ^ 32
  pub wide_ok : is_side b.w ≡ true
  pub high_ok : is_side b.h ≡ true
  pub long : length b.levels ≡ b.w * b.h
  pub near : (p : ℕ) → p < b.w * b.h → is_near (level_of b p) ≡ true

pub whole : (b : Block) → is_block b ≡ true → Whole b
unfolding is_block
whole b e =
    let a = both _ _ e in
    let n = both _ _ a.0 in
    let s = both _ _ n.1 in
    let l = both _ _ a.1 in
    record {
      small = ltb-true _ _ n.0;
      wide_ok = s.0;
      high_ok = s.1;
      long = eqb-true _ _ l.0;
      near = every_each (b.w * b.h) (λ p. is_near (level_of b p)) l.1;
    }

pub is_block_lem : (b : Block) → Whole b → is_block b ≡ true
unfolding is_block
is_block_lem b x =
    rw (lt-ltb b.number (2 ^ 32) x.small, x.wide_ok, x.high_ok, eq-eqb (length b.levels) (b.w * b.h) x.long)
    (every_all (b.w * b.h) (λ p. is_near (level_of b p)) x.near)

near_small : (l : ℤ) → is_near l ≡ true → nat_abs l < 2 ^ 31
near_small l e = omega (arith, leb-true (nat_abs l) (2 ^ 30) e)

-- a level that does not stand
pub level_zero : (l : ℤ) → stands l ≡ false → l ≡ pos 0
level_zero (pos n) e = ap pos (eqb-true n 0 (not-false _ e))
level_zero (negsuc n) e = absurd (omega (arith, eqb-true (suc n) 0 (not-false _ e)))

-- ---- reading a block's bytes

-- the parts of a record
abbrev rest : Block → List ℕ
rest b = map_of (b.w * b.h) (level_of b) ++ listed (b.w * b.h) (level_of b)

module _ (s : List ℕ) (b : Block) (here : Part s 0 (record_of b)) where
  number_part : Part s 0 (four b.number)
  unfolding record_of
  number_part = part_left (four b.number) ((side_byte b.w b.h ∷ []) ++ rest b) here

  from_side : Part s 4 ((side_byte b.w b.h ∷ []) ++ rest b)
  unfolding record_of
  from_side = part_right (four b.number) ((side_byte b.w b.h ∷ []) ++ rest b) here

  side_part : Part s 4 (side_byte b.w b.h ∷ [])
  side_part = part_left (side_byte b.w b.h ∷ []) (rest b) from_side

  from_map : Part s 5 (rest b)
  from_map = part_right (side_byte b.w b.h ∷ []) (rest b) from_side

  map_part : Part s 5 (map_of (b.w * b.h) (level_of b))
  map_part = part_left (map_of (b.w * b.h) (level_of b)) (listed (b.w * b.h) (level_of b)) from_map

  listed_here : Part s (5 + b.w * b.h / 8) (listed (b.w * b.h) (level_of b))
  listed_here =
      part_at (ap (λ (k : ℕ). 5 + k) (map_length (b.w * b.h) (level_of b)))
      (part_right (map_of (b.w * b.h) (level_of b)) (listed (b.w * b.h) (level_of b)) from_map)

pub record_length : (b : Block) → length (record_of b) ≡ 5 + b.w * b.h / 8 + length (listed (b.w * b.h) (level_of b))
unfolding record_of
record_length b = omega (arith, length-append (map_of (b.w * b.h) (level_of b)) (listed (b.w * b.h) (level_of b)), map_length (b.w * b.h) (level_of b))

module _ (s : List ℕ) (b : Block) (ok : Whole b) (here : Part s 0 (record_of b)) where
  pub number_is : number_at s 0 ≡ b.number
  number_is = number_read b.number (number_part s b here) ok.small

  side_is : get_or s 4 0 ≡ side_byte b.w b.h
  side_is = part_get (side_part s b here) 0 0 (omega arith)

  width_is : width_in s ≡ b.w
  unfolding width_in
  width_is = ap width_of side_is ∙ wide_back b.w b.h ok.wide_ok ok.high_ok

  height_is : height_in s ≡ b.h
  unfolding height_in
  height_is = ap height_of side_is ∙ high_back b.w b.h ok.wide_ok ok.high_ok

  places_is : places_in s ≡ b.w * b.h
  places_is = ap₂ ◌*◌ width_is height_is

  bit_is : (p : ℕ) → p < b.w * b.h → bit_in s p ≡ stands (level_of b p)
  bit_is = bits_read (b.w * b.h) (level_of b) (sized b.w b.h ok.wide_ok ok.high_ok).whole (map_part s b here)

  count_is : (p : ℕ) → p ≤ b.w * b.h → 4 * count_in s p ≡ length (listed p (level_of b))
  count_is p h =
      ap (λ (k : ℕ). 4 * k) (standing_same (bit_in s) (λ q. stands (level_of b q)) p (λ q u. bit_is q (omega arith)))
      ∙ sym (listed_length p (level_of b))

  place_is : (p : ℕ) → p ≤ b.w * b.h → 5 + places_in s / 8 + 4 * count_in s p ≡ 5 + b.w * b.h / 8 + length (listed p (level_of b))
  place_is p h = ap₂ (λ (k m : ℕ). 5 + k / 8 + m) places_is (count_is p h)

  pub length_is : length_in s ≡ length (record_of b)
  unfolding length_in
  length_is =
      ap (λ (k : ℕ). 5 + places_in s / 8 + 4 * count_in s k) places_is ∙ place_is (b.w * b.h) (omega arith) ∙ sym (record_length b)

  listed_is : (p : ℕ) → p < b.w * b.h → stands (level_of b p) ≡ true → listed_in s (count_in s p) ≡ level_of b p
  unfolding listed_in
  listed_is p h e =
      let small = near_small (level_of b p) (ok.near p h) in
      ap (λ (k : ℕ). of_word (number_at s k)) (place_is p (omega arith))
      ∙ ap of_word (number_read (word_of (level_of b p)) (listed_part (b.w * b.h) (level_of b) (listed_here s b here) p h e) (word_small (level_of b p) small))
      ∙ word_read (level_of b p) small

  level_is : (p : ℕ) → p < b.w * b.h → level_in s p ≡ level_of b p
  unfolding level_in
  level_is p h =
      ⊎_elim (λ e. let t : bit_in s p ≡ true = bit_is p h ∙ e in rw t (listed_is p h e))
      (λ e. let t : bit_in s p ≡ false = bit_is p h ∙ e in rw t (sym (level_zero (level_of b p) e))) (decided (stands (level_of b p)))

  levels_is : tab (places_in s) (level_in s) ≡ b.levels
  levels_is =
      ap (λ (k : ℕ). tab k (level_in s)) places_is ∙ tab_ext (b.w * b.h) (level_in s) (level_of b) level_is
      ∙ tab_get_or b.levels (b.w * b.h) (pos 0) ok.long

  pub block_is : block_in s ≡ b
  unfolding block_in
  block_is = λ i. record { number = number_is i; w = width_is i; h = height_is i; levels = levels_is i }

  -- a level that is listed belongs to a place
  right_is : (i : ℕ) → i < count_in s (places_in s) → (stands (listed_in s i) && is_near (listed_in s i)) ≡ true
  right_is i h =
      let f = standing_find (bit_in s) (places_in s) i h in
      let below : f.place < b.w * b.h = omega (arith, f.below, places_is) in
      let on : stands (level_of b f.place) ≡ true = sym (bit_is f.place below) ∙ f.on in
      let is : listed_in s i ≡ level_of b f.place = ap (listed_in s) (sym f.rank) ∙ listed_is f.place below on in
      rw (is, on) (ok.near f.place below)

  bad_is : is_bad s ≡ false
  unfolding is_bad
  bad_is =
      rw (
        lt-ltb (get_or s 4 0) 16 (subst (λ (k : ℕ). k < 16) (sym side_is) (byte_small b.w b.h ok.wide_ok ok.high_ok)),
        every_all (count_in s (places_in s)) (λ i. stands (listed_in s i) && is_near (listed_in s i)) right_is,
      )

  pub answer_is : (low : ℕ) → low ≤ b.number → record_answer low s ≡ answers (length (record_of b))
  unfolding record_answer lowest
  answer_is low h =
      rw (
        le-ltb (length s) (length_in s) (omega (arith, part_room here (omega arith), length_is)),
        bad_is,
        le-ltb (number_at s 0) low (omega (arith, number_is)),
      ) (ap answers length_is)

-- ---- an accepted record is its block's bytes

pub record Accepted (low : ℕ) (s : List ℕ) : Type 0 where
  pub room : length_in s ≤ length s
  pub side : get_or s 4 0 < 16
  pub right : (i : ℕ) → i < count_in s (places_in s) → (stands (listed_in s i) && is_near (listed_in s i)) ≡ true
  pub rising : low ≤ number_at s 0

pub accepted : (low : ℕ) (s : List ℕ) (m : ℕ) → record_answer low s ≡ answers m → Accepted low s × (m ≡ length_in s)
unfolding record_answer is_bad
accepted low s m e =
    let a = passed _ _ _ _ _ (sym e) in
    let b = passed _ _ _ _ _ a.1 in
    let c = passed _ _ _ _ _ b.1 in
    let fine = neither _ _ b.0 in (
      record {
        room = ltb-false _ _ a.0;
        side = ltb-true _ _ (not-false _ fine.0);
        right = every_each (count_in s (places_in s)) (λ i. stands (listed_in s i) && is_near (listed_in s i)) (not-false _ fine.1);
        rising = ltb-false _ _ c.0;
      },
      the_answer (length_in s) m c.1,
    )

-- a refused record's number
abbrev pub Number : ℕ → Type 0
Number k = (k ≡ 10) ⊎ (k ≡ 11) ⊎ (k ≡ 12)

pub refused : (low : ℕ) (s : List ℕ) (k : ℕ) → record_answer low s ≡ refuses k → Number k
unfolding record_answer lowest
refused low s k e = by (is_cut s) (is_bad s) (ltb (number_at s 0) low) (length_in s) e
  where
    same : {a b : ℕ} → refuses a ≡ refuses b → b ≡ a
    same e = cc

    by : (cut bad late : Bool) (n : ℕ) → cond cut (refuses 10) (cond bad (refuses 11) (cond late (refuses 12) (answers n))) ≡ refuses k → Number k
    by true bad late n e = inl (same e)
    by false true late n e = inr (inl (same e))
    by false false true n e = inr (inr (same e))
    by false false false n e = no_answer (sym e)

module _ (s : List ℕ) (bytes : Bytes s) {low : ℕ} (ok : Accepted low s) where
  -- the level that is listed for a place whose bit stands
  right_at : (p : ℕ) → p < places_in s → bit_in s p ≡ true → (stands (listed_in s (count_in s p)) ≡ true) × (is_near (listed_in s (count_in s p)) ≡ true)
  right_at p h e =
      both _ _ (ok.right (count_in s p) (omega (arith, standing_within (bit_in s) (places_in s) p h, ap (λ (b : Bool). cond {A = ℕ} b 1 0) e)))

  stands_in : (p : ℕ) → p < places_in s → stands (level_in s p) ≡ bit_in s p
  unfolding level_in
  stands_in p h = ⊎_elim (λ e. rw e (right_at p h e).0) (λ e. rw e) (decided (bit_in s p))

  near_in : (p : ℕ) → p < places_in s → is_near (level_in s p) ≡ true
  unfolding level_in
  near_in p h = ⊎_elim (λ e. rw e (right_at p h e).1) (λ e. rw e) (decided (bit_in s p))

  -- the level of the block at a place
  pub level_in_lem : (p : ℕ) → p < places_in s → level_of (block_in s) p ≡ level_in s p
  unfolding block_in
  level_in_lem p h = get_or_tab (places_in s) (level_in s) p (pos 0) h

  pub bits_in : (p : ℕ) → p < places_in s → stands (level_of (block_in s) p) ≡ bit_in s p
  bits_in p h = ap stands (level_in_lem p h) ∙ stands_in p h

  count_in_lem : (p : ℕ) → p ≤ places_in s → length (listed p (level_of (block_in s))) ≡ 4 * count_in s p
  count_in_lem p h =
      listed_length p (level_of (block_in s))
      ∙ ap (λ (k : ℕ). 4 * k) (standing_same (λ q. stands (level_of (block_in s) q)) (bit_in s) p (λ q u. bits_in q (omega arith)))

  pub length_in_lem : length (record_of (block_in s)) ≡ length_in s
  unfolding block_in length_in
  length_in_lem = record_length (block_in s) ∙ ap (λ (k : ℕ). 5 + places_in s / 8 + k) (count_in_lem (places_in s) (omega arith))

  word_in : (p : ℕ) → p < places_in s → stands (level_of (block_in s) p) ≡ true
      → word_of (level_of (block_in s) p) ≡ number_at s (5 + places_in s / 8 + length (listed p (level_of (block_in s))))
  unfolding level_in listed_in
  word_in p h e =
      let at = 5 + places_in s / 8 + 4 * count_in s p in
      let t : bit_in s p ≡ true = sym (bits_in p h) ∙ e in
      ap word_of (level_in_lem p h)
      ∙ ap (λ (b : Bool). word_of (cond b (of_word (number_at s at)) (pos 0))) t
      ∙ word_back (number_at s at) (number_small s at bytes)
      ∙ ap (λ (k : ℕ). number_at s (5 + places_in s / 8 + k)) (sym (count_in_lem p (omega arith)))

  side_in : side_byte (width_in s) (height_in s) ≡ get_or s 4 0
  unfolding width_in height_in
  side_in = byte_back (get_or s 4 0) ok.side

  room_in : 5 + places_in s / 8 + length (listed (places_in s) (level_of (block_in s))) ≤ length s
  unfolding length_in
  room_in = omega (arith, ok.room, count_in_lem (places_in s) (omega arith))

  pub record_in : Part s 0 (record_of (block_in s))
  unfolding record_of block_in
  record_in =
      part_both (number_made s 0 bytes (omega (arith, room_in)))
      (part_both
      (part_made s (side_byte (width_in s) (height_in s) ∷ []) 4 0 (omega (arith, room_in))
      (λ i b. let z : i ≡ 0 = omega arith in subst (λ (k : ℕ). get_or s (4 + k) 0 ≡ get_or (side_byte (width_in s) (height_in s) ∷ []) k 0) (sym z) (sym side_in)))
      (part_both
      (bits_made s (places_in s) (level_of (block_in s)) bytes (sized_in s).whole (omega (arith, room_in)) bits_in)
      (part_at (ap (λ (k : ℕ). 5 + k) (sym (map_length (places_in s) (level_of (block_in s)))))
      (listed_made s (5 + places_in s / 8) bytes (places_in s) (level_of (block_in s)) room_in word_in))))

  pub block_in_lem : is_block (block_in s) ≡ true
  unfolding block_in width_in height_in
  block_in_lem =
      is_block_lem (block_in s)
      (record {
        small = number_small s 0 bytes;
        wide_ok = wide_side (get_or s 4 0);
        high_ok = high_side (get_or s 4 0);
        long = length_tab (places_in s) (level_in s);
        near = λ p h. ap is_near (level_in_lem p h) ∙ near_in p h;
      })
