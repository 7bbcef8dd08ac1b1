-- `writer::admit::fits` meets its contract. Assumes nothing.
use mathlib.Core.List.{List}
use lib.IntN.{ℤ}
use mathlib.Core.Path.{◌≡◌, sym, ap, ◌∙◌}
use Prim.Native.Nat.{ℕ, ◌+◌, ◌-◌, ◌/◌, ◌≤◌}
use native.Mathlib.Omega.{arith}
use lib.ListN.{length, take, drop}
use Rattle.format.proofs.Listed.{listed_small}
use Rattle.format.specs.Pieces.{listed}
use Rattle.writer.specs.Write.{level_at, level_from, places_at, place_at, length_to}
use Rattle.writer.proofs.Blocks.{length_at, part_long, part_listed, place_none, place_step, place_within, to_none, to_step, to_within, sized_at, fits_levels, fits_bytes, fits_both}
use Rattle.writer.proofs.admit.fits.Goals as goal

more_is : (sides : List ℕ) (levels : List ℤ) (k : ℕ) {place listed_is : ℕ} → place ≡ place_at sides k
    → listed_is ≡ length (listed (places_at sides k) (level_from levels place)) → 5 + places_at sides k / 8 + listed_is ≡ length_at sides levels k
more_is sides levels k e f =
    let n = places_at sides k in
    ap (λ (m : ℕ). 5 + n / 8 + m) (f ∙ ap (λ (p : ℕ). length (listed n (level_from levels p))) e)

-- what is listed for the part of the levels
listed_here : (levels : List ℤ) (place n : ℕ) → place + n ≤ length levels → {r : ℕ}
    → r ≡ length (listed (length (take (place + n - place) (drop place levels))) (level_at (take (place + n - place) (drop place levels))))
    → r ≡ length (listed n (level_from levels place))
listed_here levels place n room e = e ∙ ap length (part_listed levels place (place + n - place) n (omega arith) room)

pub loop-k-init : goal.loop-k-init
loop-k-init c = let a = c.args in record { place = sym (place_none a.sides.now); bytes = sym (to_none a.sides.now a.levels.now); levels_there = omega arith; bytes_fit = omega arith }

pub overflow_mul-n-in-loop-k-2 : goal.overflow_mul-n-in-loop-k-2
overflow_mul-n-in-loop-k-2 c = omega (arith, (sized_at c.args.count c.args.sides.now c.requires.1 c.loop-k.k c.loop-k-test.true).most)

pub returns-then-levels-place : goal.returns-then-levels-place
returns-then-levels-place c =
    let a = c.args in
    fits_levels (length a.levels.now) a.room (place_at a.sides.now a.count) (length_to a.sides.now a.levels.now a.count)
    (omega (arith, place_within a.sides.now a.count c.loop-k.k c.loop-k-test.true, c.loop-k.invariant.place))

pub listed_length-requires : goal.listed_length-requires
listed_length-requires c =
    let a = c.args in
    let n = places_at a.sides.now c.loop-k.k in
    let place = c.loop-k.place in
    omega (
      arith,
      (sized_at a.count a.sides.now c.requires.1 c.loop-k.k c.loop-k-test.true).most,
      part_long a.levels.now place (place + n - place) n (omega arith) (omega (arith, c.if-levels-place.false, c.loop-k.invariant.levels_there)),
    )

pub overflow_add-more-in-loop-k : goal.overflow_add-more-in-loop-k
overflow_add-more-in-loop-k c =
    let a = c.args in
    let n = places_at a.sides.now c.loop-k.k in
    omega (
      arith,
      (sized_at a.count a.sides.now c.requires.1 c.loop-k.k c.loop-k-test.true).most,
      listed_here c.args.levels.now c.loop-k.place n (omega (arith, c.if-levels-place.false, c.loop-k.invariant.levels_there)) c.listed_length.ensures,
      listed_small n (level_from a.levels.now c.loop-k.place),
    )

pub returns-then-room-bytes : goal.returns-then-room-bytes
returns-then-room-bytes c =
    let a = c.args in
    let k = c.loop-k.k in
    let more = more_is a.sides.now a.levels.now k c.loop-k.invariant.place (listed_here a.levels.now c.loop-k.place (places_at a.sides.now k) (omega (arith, c.if-levels-place.false, c.loop-k.invariant.levels_there)) c.listed_length.ensures) in
    fits_bytes (length a.levels.now) a.room (place_at a.sides.now a.count) (length_to a.sides.now a.levels.now a.count)
    (omega (arith, to_within a.sides.now a.levels.now a.count k c.loop-k-test.true, c.loop-k.invariant.bytes, more))

pub loop-k-preserved : goal.loop-k-preserved
loop-k-preserved c =
    let a = c.args in
    let k = c.loop-k.k in
    let i = c.loop-k.invariant in
    let listed = listed_here a.levels.now c.loop-k.place (places_at a.sides.now k) (omega (arith, c.if-levels-place.false, i.levels_there)) c.listed_length.ensures in
    record {
      place = omega (arith, i.place, place_step a.sides.now k);
      bytes = omega (arith, i.bytes, more_is a.sides.now a.levels.now k i.place listed, to_step a.sides.now a.levels.now k);
      levels_there = omega (arith, c.if-levels-place.false, i.levels_there);
      bytes_fit = omega (arith, c.if-room-bytes.false, i.bytes_fit);
    }

pub returns : goal.returns
returns c =
    let a = c.args in
    let done : c.loop-k.k ≡ a.count = omega arith in
    fits_both (length a.levels.now) a.room (place_at a.sides.now a.count) (length_to a.sides.now a.levels.now a.count)
    (omega (arith, c.loop-k.invariant.place ∙ ap (place_at a.sides.now) done)) (omega (arith, c.loop-k.invariant.bytes ∙ ap (length_to a.sides.now a.levels.now) done))
