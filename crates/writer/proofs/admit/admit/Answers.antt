-- `writer::admit::admit` meets its contract. Assumes nothing.
use mathlib.Core.List.{List}
use lib.IntN.{ℤ}
use mathlib.Core.Bool.{Bool, true}
use Prim.Native.Nat.{min}
use mathlib.Core.Path.{◌≡◌, sym, ap, ap₂, ◌∙◌}
use Prim.Native.Nat.{ℕ, ◌+◌, ◌-◌, ◌*◌, ◌≤◌}
use native.Mathlib.Omega.{arith}
use lib.IntN.{pos}
use lib.ListN.{length, get_or, take}
use lib.Dec.{ltb}
use lib.Seq.{length-take-le, get_or-take}
use Rattle.fixed.specs.Limit.{is_within, all_within}
use Rattle.laws.proofs.Every.{every_first, every_same}
use Rattle.writer.proofs.Word.{near}
use Rattle.laws.specs.Table.{every}
use Rattle.sizes.specs.Size.{is_side}
use Rattle.format.specs.Pieces.{is_near, are_near}
use Rattle.writer.specs.Write.{place_at, length_to, are_sides, is_rising}
use Rattle.writer.proofs.Admitted.{roomy, short_few, short_room, not_short, few_room, sides_told, says_1, says_3, says_11, says_12, says_none}
use Rattle.writer.proofs.Blocks.{fits_told}
use Rattle.writer.proofs.admit.admit.Goals as goal

-- ---- what is known past each test
side_test : (count : ℕ) (sides : List ℕ) {n : ℕ} {b : Bool} → n ≡ min (2 * count) (length sides)
    → b ≡ every (length (take n sides)) (λ i. is_side (get_or (take n sides) i 0)) → b ≡ are_sides count sides
side_test count sides {n} e f =
    f ∙ every_first is_side n sides 0 (omega (arith, e)) ∙ ap (λ (k : ℕ). every k (λ i. is_side (get_or sides i 0))) e

near_test : (count : ℕ) (sides : List ℕ) (levels : List ℤ) {n : ℕ} {b : Bool} → n ≡ place_at sides count → n ≤ length levels
    → b ≡ all_within 1073741824 (length (take n levels)) (take n levels) → b ≡ are_near (place_at sides count) levels
unfolding all_within are_near
near_test count sides levels {n} e room f =
    f ∙ every_first (is_within 1073741824) n levels (pos 0) room
    ∙ every_same n (λ p. is_within 1073741824 (get_or levels p (pos 0))) (λ p. is_near (get_or levels p (pos 0))) (λ p h. near (get_or levels p (pos 0)))
    ∙ ap (λ (k : ℕ). every k (λ p. is_near (get_or levels p (pos 0)))) e

rising_test : (count : ℕ) (numbers : List ℕ) {b : Bool} → count ≤ length numbers → b ≡ is_rising (length (take count numbers)) (take count numbers)
    → b ≡ is_rising count numbers
rising_test count numbers room f =
    f ∙ ap (λ (k : ℕ). is_rising k (take count numbers)) (length-take-le count numbers room)
    ∙ every_same (count - 1) (λ k. ltb (get_or (take count numbers) k 0) (get_or (take count numbers) (k + 1) 0)) (λ k. ltb (get_or numbers k 0) (get_or numbers (k + 1) 0))
    (λ k h. ap₂ ltb (get_or-take count numbers k 0 (omega arith)) (get_or-take count numbers (k + 1) 0 (omega arith)))

-- and what each says where it led on
past_sides : (count : ℕ) (sides : List ℕ) {n : ℕ} {b : Bool} → n ≡ min (2 * count) (length sides)
    → b ≡ every (length (take n sides)) (λ i. is_side (get_or (take n sides) i 0)) → b ≡ true → are_sides count sides ≡ true
past_sides count sides e f u = sym (side_test count sides e f) ∙ u

module _ (count : ℕ) (numbers sides : List ℕ) (levels : List ℤ) (room : ℕ) where
  fitting : {b : Bool} → b ≡ roomy count numbers sides levels room → b ≡ true
      → (place_at sides count ≤ length levels) × (length_to sides levels count ≤ room)
  fitting f u = fits_told (length levels) room (place_at sides count) (length_to sides levels count) (sym f ∙ u)

  near_is : {n : ℕ} {b r : Bool} → r ≡ roomy count numbers sides levels room → r ≡ true → n ≡ place_at sides count
      → b ≡ all_within 1073741824 (length (take n levels)) (take n levels) → b ≡ are_near (place_at sides count) levels
  near_is f u e g = near_test count sides levels e (omega (arith, e, (fitting f u).0)) g

pub returns-then-not-are_sides : goal.returns-then-not-are_sides
returns-then-not-are_sides c =
    let a = c.args in
    says_1 a.count a.numbers.now a.sides.now a.levels.now a.room (sym (side_test a.count a.sides.now c.lent_sides.ensures c.are_sides.ensures) ∙ c.if-not-are_sides.true)

pub returns-then-numbers-count : goal.returns-then-numbers-count
returns-then-numbers-count c =
    let a = c.args in
    let past_sides = past_sides a.count a.sides.now c.lent_sides.ensures c.are_sides.ensures c.if-not-are_sides.false in
    says_3 a.count a.numbers.now a.sides.now a.levels.now a.room past_sides (short_few a.count a.numbers.now a.sides.now a.levels.now a.room c.if-numbers-count.true)

pub fits-requires : goal.fits-requires
fits-requires c =
    let a = c.args in
    let past_sides = past_sides a.count a.sides.now c.lent_sides.ensures c.are_sides.ensures c.if-not-are_sides.false in
    let r = few_room a.count a.numbers.now a.sides.now a.levels.now a.room c.if-numbers-count.false in
    (r.1, sides_told a.count a.numbers.now a.sides.now a.levels.now a.room r.1 past_sides)

pub returns-then-not-fits : goal.returns-then-not-fits
returns-then-not-fits c =
    let a = c.args in
    let past_sides = past_sides a.count a.sides.now c.lent_sides.ensures c.are_sides.ensures c.if-not-are_sides.false in
    says_3 a.count a.numbers.now a.sides.now a.levels.now a.room past_sides
    (short_room a.count a.numbers.now a.sides.now a.levels.now a.room (sym c.fits.ensures ∙ c.if-not-fits.true))

pub places_of-requires : goal.places_of-requires
places_of-requires c =
    let a = c.args in
    let r = few_room a.count a.numbers.now a.sides.now a.levels.now a.room c.if-numbers-count.false in
    let p = fitting a.count a.numbers.now a.sides.now a.levels.now a.room c.fits.ensures c.if-not-fits.false in
    (r.1, omega (arith, p.0))

pub slice_bounds-all_within-end : goal.slice_bounds-all_within-end
slice_bounds-all_within-end c =
    let a = c.args in
    let p = fitting a.count a.numbers.now a.sides.now a.levels.now a.room c.fits.ensures c.if-not-fits.false in
    omega (arith, length-take-le c.places_of.result a.levels.now (omega (arith, p.0, c.places_of.ensures)))

pub returns-then-not-all_within : goal.returns-then-not-all_within
returns-then-not-all_within c =
    let a = c.args in
    let past_sides = past_sides a.count a.sides.now c.lent_sides.ensures c.are_sides.ensures c.if-not-are_sides.false in
    let past_room = not_short a.count a.numbers.now a.sides.now a.levels.now a.room c.if-numbers-count.false (sym c.fits.ensures ∙ c.if-not-fits.false) in
    let near = near_is a.count a.numbers.now a.sides.now a.levels.now a.room c.fits.ensures c.if-not-fits.false c.places_of.ensures c.all_within.ensures in
    says_11 a.count a.numbers.now a.sides.now a.levels.now a.room past_sides past_room (sym near ∙ c.if-not-all_within.true)

pub slice_bounds-is_rising-end : goal.slice_bounds-is_rising-end
slice_bounds-is_rising-end c =
    let a = c.args in
    omega (arith, length-take-le a.count a.numbers.now (few_room a.count a.numbers.now a.sides.now a.levels.now a.room c.if-numbers-count.false).0)

pub returns-then-not-is_rising : goal.returns-then-not-is_rising
returns-then-not-is_rising c =
    let a = c.args in
    let past_sides = past_sides a.count a.sides.now c.lent_sides.ensures c.are_sides.ensures c.if-not-are_sides.false in
    let past_room = not_short a.count a.numbers.now a.sides.now a.levels.now a.room c.if-numbers-count.false (sym c.fits.ensures ∙ c.if-not-fits.false) in
    let near = near_is a.count a.numbers.now a.sides.now a.levels.now a.room c.fits.ensures c.if-not-fits.false c.places_of.ensures c.all_within.ensures in
    says_12 a.count a.numbers.now a.sides.now a.levels.now a.room past_sides past_room (sym near ∙ c.if-not-all_within.false)
    (sym (rising_test a.count a.numbers.now (few_room a.count a.numbers.now a.sides.now a.levels.now a.room c.if-numbers-count.false).0 c.is_rising.ensures) ∙ c.if-not-is_rising.true)

pub returns : goal.returns
returns c =
    let a = c.args in
    let past_sides = past_sides a.count a.sides.now c.lent_sides.ensures c.are_sides.ensures c.if-not-are_sides.false in
    let past_room = not_short a.count a.numbers.now a.sides.now a.levels.now a.room c.if-numbers-count.false (sym c.fits.ensures ∙ c.if-not-fits.false) in
    let near = near_is a.count a.numbers.now a.sides.now a.levels.now a.room c.fits.ensures c.if-not-fits.false c.places_of.ensures c.all_within.ensures in
    says_none a.count a.numbers.now a.sides.now a.levels.now a.room past_sides past_room (sym near ∙ c.if-not-all_within.false)
    (sym (rising_test a.count a.numbers.now (few_room a.count a.numbers.now a.sides.now a.levels.now a.room c.if-numbers-count.false).0 c.is_rising.ensures) ∙ c.if-not-is_rising.false)
