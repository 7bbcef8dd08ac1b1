-- What the tests of one record come to. Assumes nothing.
use Rattle.std.proofs.Common.{◌≡◌, ℕ, ◌+◌, ◌*◌, ◌/◌, ◌%◌, ◌<◌, ◌≤◌, Bool, true, false, not, ◌||◌, ltb, List, length, nat_abs, get_or, sym, refl, ap, ◌∙◌, arith, le-ltb, lt-ltb}
use Rattle.answer.specs.Answer.{answers, refuses, lowest}
use Rattle.answer.specs.Answer.{number_of}
use Rattle.answer.specs.declared.Refusal.{Refusal}
use Rattle.answer.specs.declared.Refusal.TheVariants.{CutRecord}
use Rattle.laws.specs.Sum.{sum_ℕ}
use Rattle.format.specs.Pieces.{number_at, width_of, height_of}
use Rattle.format.proofs.Parse.{length_some}
use Rattle.format.specs.Format.{width_in, height_in, bit_in, places_in, count_in, list_in, listed_in, length_in, is_bad, record_answer}
use Rattle.look.specs.Look.{listed_count, listed_sum, are_right, unless_cut}
use Rattle.format.proofs.Listed.{standing_le}
use Rattle.format.proofs.Sides.{sized_in}

-- ---- a record's length

pub length_is : (s : List ℕ) → length_in s ≡ list_in s + 4 * count_in s (places_in s)
unfolding length_in
length_is s = refl

pub count_most : (s : List ℕ) → listed_count s ≤ 1024
count_most s = omega (arith, standing_le (bit_in s) (places_in s), (sized_in s).most)

pub length_most : (s : List ℕ) → length_in s ≤ 4229
length_most s = omega (arith, length_is s, count_most s, (sized_in s).most)

pub whole_some : (s : List ℕ) → length_in s ≤ length s → 5 ≤ length s
whole_some s h = omega (arith, length_some s, h)

-- a whole record has room for its map
pub map_room : (s : List ℕ) {n : ℕ} → n ≡ places_in s → length_in s ≤ length s → (n ≤ 1024) × (n % 8 ≡ 0) × (5 + n / 8 ≤ length s)
map_room s e h = rw e ((sized_in s).most, (sized_in s).whole, omega (arith, length_is s, h))

-- its places, by its side byte, and where it ends
module _ (s : List ℕ) {n : ℕ} where
  pub places_are : {w h : ℕ} → n ≡ w * h → w ≡ width_of (get_or s 4 0) → h ≡ height_of (get_or s 4 0) → n ≡ places_in s
  unfolding width_in height_in
  places_are e a b = rw (e, a, b)

  module _ (e : n ≡ places_in s) where
    pub list_is : 5 + n / 8 ≡ list_in s
    list_is = ap (λ (n : ℕ). 5 + n / 8) e

    pub count_is : {count : ℕ} → count ≡ count_in s n → count ≡ listed_count s
    count_is f = f ∙ ap (count_in s) e

    pub listed_room : {count : ℕ} → count ≡ listed_count s → length_in s ≤ length s
        → (5 + n / 8 ≡ list_in s) × (5 + n / 8 + 4 * count ≤ length s) × (count ≤ 1024)
    listed_room f whole = (list_is, omega (arith, list_is, f, length_is s), omega (arith, f, count_most s))

    pub end_is : {count : ℕ} → count ≡ listed_count s → 5 + n / 8 + 4 * count ≡ length_in s
    end_is f = omega (arith, list_is, f, length_is s)

-- ---- what a whole record answers

module _ (low : ℕ) (s : List ℕ) where
  pub says_cut : {why : Refusal} → why ≡ CutRecord → length s + 1 ≤ length_in s → refuses (number_of why) ≡ record_answer low s
  unfolding record_answer lowest
  says_cut e h = rw (e, lt-ltb (length s) (length_in s) (omega arith))

-- the tests of its side byte and its levels
module _ (s : List ℕ) {count : ℕ} (e : count ≡ listed_count s) where
  bad_levels : are_right s count ≡ false → is_bad s ≡ true
  unfolding is_bad
  bad_levels f = rw (sym e, f) (turned (ltb (get_or s 4 0) 16))
    where
      turned : (a : Bool) → (not a || true) ≡ true
      turned true = refl
      turned false = refl

  not_bad : get_or s 4 0 < 16 → are_right s count ≡ true → is_bad s ≡ false
  unfolding is_bad
  not_bad h f = rw (sym e, f, lt-ltb (get_or s 4 0) 16 h)

module _ (low : ℕ) (s : List ℕ) (whole : length_in s ≤ length s) where
  pub says_side : 16 ≤ get_or s 4 0 → refuses 11 ≡ record_answer low s
  unfolding record_answer lowest is_bad
  says_side h = rw (le-ltb (length s) (length_in s) whole, le-ltb (get_or s 4 0) 16 h)

  module _ (count : ℕ) (e : count ≡ listed_count s) where
    pub says_levels : are_right s count ≡ false → refuses 11 ≡ record_answer low s
    unfolding record_answer lowest
    says_levels f = rw (le-ltb (length s) (length_in s) whole, bad_levels s e f)

    module _ (h : get_or s 4 0 < 16) (f : are_right s count ≡ true) where
      pub says_order : number_at s 0 < low → refuses 12 ≡ record_answer low s
      unfolding record_answer lowest
      says_order l = rw (le-ltb (length s) (length_in s) whole, not_bad s e h f, lt-ltb (number_at s 0) low l)

      pub says_right : (n : ℕ) → n ≡ places_in s → low ≤ number_at s 0 → answers (5 + n / 8 + 4 * count) ≡ record_answer low s
      unfolding record_answer lowest
      says_right n p l = rw (end_is s p e, le-ltb (length s) (length_in s) whole, not_bad s e h f, le-ltb (number_at s 0) low l)

-- the sum of its levels
pub sum_is : (s : List ℕ) {count m : ℕ} → count ≡ listed_count s → m ≡ sum_ℕ count (λ i. nat_abs (listed_in s i)) → m ≡ listed_sum s
unfolding listed_sum
sum_is s e f = f ∙ ap (λ (n : ℕ). sum_ℕ n (λ i. nat_abs (listed_in s i))) e

-- ---- what is counted in a refused record

-- in one that is cut
pub cut_none : (s : List ℕ) (n : ℕ) {m : ℕ} → length s + 1 ≤ length_in s → m ≡ 0 → m ≡ unless_cut s n
cut_none s n h e = rw (e, lt-ltb (length s) (length_in s) (omega arith))

-- in one that is whole
pub whole_all : (s : List ℕ) {m n : ℕ} → length_in s ≤ length s → m ≡ n → m ≡ unless_cut s n
whole_all s h e = rw (e, le-ltb (length s) (length_in s) h)
