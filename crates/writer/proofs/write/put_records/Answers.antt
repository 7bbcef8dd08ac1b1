-- `writer::write::put_records` meets its contract. Assumes nothing.
use Rattle.std.proofs.Common.{◌≡◌, ℕ, ◌+◌, ◌-◌, ◌*◌, ◌≤◌, ◌<◌, List, ℤ, length, get_or, take, drop, sym, ap, ◌∙◌, arith}
use lib.ListN.{length-drop}
use Rattle.laws.proofs.Part.{rest_is}
use Rattle.laws.proofs.Pasted.{pasted_none}
use Rattle.laws.specs.Store.{over, pasted}
use Rattle.format.specs.Format.{Block, record_of, bytes_of}
use Rattle.writer.specs.Write.{place_at, places_at, length_to, block_of, block_at, blocks_in}
use Rattle.laws.proofs.Pasted.{rest_put}
use Rattle.writer.proofs.Blocks.{length_at, place_none, place_step, place_within, bytes_none, at_length, bytes_long, length_to_lem, to_within, sides_at, block_at_lem, block_part, over_block}
use Rattle.writer.proofs.write.put_records.Goals as goal

-- what a turn knows of block k, whose levels begin at place, and whose record begins at `at`
module _ (count : ℕ) (numbers sides : List ℕ) (levels : List ℤ) (k : ℕ) (inside : k < count) {place n at room : ℕ} (p : place ≡ place_at sides k)
    (e : n ≡ places_at sides k) (a : at ≡ length (bytes_of (blocks_in k numbers sides levels))) (fits : length_to sides levels count ≤ room) where
  block_is : block_of (get_or numbers k 0) (get_or sides (2 * k) 0) (get_or sides (2 * k + 1) 0) (take (place + n - place) (drop place levels)) ≡ block_at numbers sides levels k
  block_is =
      block_part (get_or numbers k 0) (get_or sides (2 * k) 0) (get_or sides (2 * k + 1) 0) levels place (place + n - place) (omega (arith, e))
      ∙ block_at_lem numbers sides levels k p

  long_is : length (record_of (block_of (get_or numbers k 0) (get_or sides (2 * k) 0) (get_or sides (2 * k + 1) 0) (take (place + n - place) (drop place levels))))
      ≡ length_at sides levels k
  long_is = ap (λ b. length (record_of b)) block_is ∙ at_length numbers sides levels k

  room_is : at + length_at sides levels k ≤ room
  room_is = omega (arith, to_within sides levels count k inside, length_to_lem sides levels numbers k, a, fits)

  levels_in : place_at sides count ≤ length levels → place + n ≤ length levels
  levels_in h = omega (arith, place_within sides count k inside, p, e, h)

pub loop-k-init : goal.loop-k-init
loop-k-init c =
    let a = c.args in
    let e = sym (bytes_none a.numbers.now a.sides.now a.levels.now) in
    record {
      out = pasted_none a.out.now 0 ∙ ap (λ (l : List ℕ). over l a.out.now) e;
      at = ap length e;
      place = sym (place_none a.sides.now);
    }

pub invariant_of-size : goal.invariant_of-size
invariant_of-size c = record { sides = sides_at c.args.count c.args.sides.now c.requires.blocks_lent.2 c.loop-k.k c.loop-k-test.true }

pub overflow_add-end : goal.overflow_add-end
overflow_add-end c =
    let a = c.args in
    let i = c.loop-k.invariant in
    omega (arith, levels_in a.count a.numbers.now a.sides.now a.levels.now c.loop-k.k c.loop-k-test.true i.place c.places.ensures.0 i.at c.requires.room.1 c.requires.room.0)

pub offset_bounds-levels-place : goal.offset_bounds-levels-place
offset_bounds-levels-place c =
    let a = c.args in
    let i = c.loop-k.invariant in
    omega (arith, levels_in a.count a.numbers.now a.sides.now a.levels.now c.loop-k.k c.loop-k-test.true i.place c.places.ensures.0 i.at c.requires.room.1 c.requires.room.0)

pub slice_bounds-put_record-end : goal.slice_bounds-put_record-end
slice_bounds-put_record-end c =
    let a = c.args in
    let i = c.loop-k.invariant in
    omega (arith, levels_in a.count a.numbers.now a.sides.now a.levels.now c.loop-k.k c.loop-k-test.true i.place c.places.ensures.0 i.at c.requires.room.1 c.requires.room.0)

pub slice_bounds-put_record-count-in-loop-k : goal.slice_bounds-put_record-count-in-loop-k
slice_bounds-put_record-count-in-loop-k c =
    let a = c.args in
    let i = c.loop-k.invariant in
    omega (arith, room_is a.count a.numbers.now a.sides.now a.levels.now c.loop-k.k c.loop-k-test.true i.place c.places.ensures.0 i.at c.requires.room.1, c.loop-k.auto.out)

pub slice_bounds-put_record-start-in-loop-k : goal.slice_bounds-put_record-start-in-loop-k
slice_bounds-put_record-start-in-loop-k c =
    let a = c.args in
    let i = c.loop-k.invariant in
    omega (arith, room_is a.count a.numbers.now a.sides.now a.levels.now c.loop-k.k c.loop-k-test.true i.place c.places.ensures.0 i.at c.requires.room.1, c.loop-k.auto.out)

pub put_record-at-requires-clause-room : goal.put_record-at-requires-clause-room
put_record-at-requires-clause-room c =
    let a = c.args in
    let l = c.loop-k in
    let i = l.invariant in
    omega (
      arith,
      long_is a.count a.numbers.now a.sides.now a.levels.now l.k c.loop-k-test.true i.place c.places.ensures.0 i.at c.requires.room.1,
      room_is a.count a.numbers.now a.sides.now a.levels.now l.k c.loop-k-test.true i.place c.places.ensures.0 i.at c.requires.room.1,
      l.auto.out,
      ap length (rest_is l.out l.at),
      length-drop l.at l.out,
    )

pub overflow_add-at : goal.overflow_add-at
overflow_add-at c =
    let a = c.args in
    let l = c.loop-k in
    let i = l.invariant in
    omega (
      arith,
      c.put_record-at.ensures.value,
      long_is a.count a.numbers.now a.sides.now a.levels.now l.k c.loop-k-test.true i.place c.places.ensures.0 i.at c.requires.room.1,
      room_is a.count a.numbers.now a.sides.now a.levels.now l.k c.loop-k-test.true i.place c.places.ensures.0 i.at c.requires.room.1,
    )

pub loop-k-preserved : goal.loop-k-preserved
loop-k-preserved c =
    let a = c.args in
    let l = c.loop-k in
    let i = l.invariant in
    let put = c.put_record-at.ensures in
    let long = long_is a.count a.numbers.now a.sides.now a.levels.now l.k c.loop-k-test.true i.place c.places.ensures.0 i.at c.requires.room.1 in
    let room = room_is a.count a.numbers.now a.sides.now a.levels.now l.k c.loop-k-test.true i.place c.places.ensures.0 i.at c.requires.room.1 in
    record {
      out = rest_put l.out _ l.at (omega (arith, long, room, l.auto.out)) put.out_after
          ∙ ap (λ b. pasted l.out l.at (record_of b))
          (block_is a.count a.numbers.now a.sides.now a.levels.now l.k c.loop-k-test.true i.place c.places.ensures.0 i.at c.requires.room.1)
          ∙ over_block a.numbers.now a.sides.now a.levels.now a.out.now l.k l.at i.out i.at (omega (arith, room));
      at = omega (arith, put.value, long, i.at, bytes_long a.numbers.now a.sides.now a.levels.now l.k);
      place = omega (arith, i.place, c.places.ensures.0, place_step a.sides.now l.k);
    }

pub returns : goal.returns
returns c =
    let l = c.loop-k in
    let a = c.args in
    let done : l.k ≡ a.count = omega arith in
    let bs : (ℕ → List Block) = λ k. blocks_in k a.numbers.now a.sides.now a.levels.now in
    record {
      value = l.invariant.at ∙ ap (λ (k : ℕ). length (bytes_of (bs k))) done;
      out_after = l.invariant.out ∙ ap (λ (k : ℕ). over (bytes_of (bs k)) a.out.now) done;
    }
