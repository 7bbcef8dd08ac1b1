-- `writer::write::put_record` meets its contract. Assumes nothing.
use Rattle.std.proofs.Common.{◌≡◌, ℕ, ◌+◌, ◌-◌, ◌/◌, ◌≤◌, List, ◌++◌, length, drop, set, refl, ap, sym, ◌∙◌, arith, length-append}
use lib.ListN.{length-drop, length-set}
use borrow.Rule.Slice.PartMut.{put_mid}
use Rattle.std.proofs.lemmas.List.{length-take-le}
use Rattle.laws.proofs.Pasted.{spliced}
use Rattle.format.proofs.Bits.{map_length}
use Rattle.laws.proofs.Pasted.{over_front}
use Rattle.format.proofs.Sides.{sized}
use Rattle.format.specs.Pieces.{four, map_of}
use Rattle.writer.specs.Write.{level_at}
use Rattle.writer.proofs.Blocks.{of_length, room_of_lem, paste_record}
use Rattle.writer.proofs.write.put_record.Goals as goal

pub listed_length-requires : goal.listed_length-requires
listed_length-requires c = let a = c.args in omega (arith, c.requires.block_right, (sized a.size.w a.size.h a.size.sides.0 a.size.sides.1).most)

pub overflow_add-end : goal.overflow_add-end
overflow_add-end c =
    let a = c.args in
    omega (arith, room_of_lem a.out.now a.number a.size.w a.size.h a.levels.now c.requires.block_right c.requires.room, c.listed_length.ensures)

pub put_listed-requires : goal.put_listed-requires
put_listed-requires c =
    let a = c.args in
    let z = sized a.size.w a.size.h a.size.sides.0 a.size.sides.1 in
    let r = room_of_lem a.out.now a.number a.size.w a.size.h a.levels.now c.requires.block_right c.requires.room in
    let l = c.listed_length.ensures in
    (omega (arith, z.whole, c.requires.block_right), omega (arith, l), omega (arith, r, l))

pub slice_bounds-copy_from_slice-end : goal.slice_bounds-copy_from_slice-end
slice_bounds-copy_from_slice-end c =
    let a = c.args in
    omega (arith, room_of_lem a.out.now a.number a.size.w a.size.h a.levels.now c.requires.block_right c.requires.room, c.put_listed.auto.out)

pub slice_bounds-copy_from_slice-end-2 : goal.slice_bounds-copy_from_slice-end-2
slice_bounds-copy_from_slice-end-2 c =
    let a = c.args in
    let r = room_of_lem a.out.now a.number a.size.w a.size.h a.levels.now c.requires.block_right c.requires.room in
    omega (arith, length-take-le 4 c.put_listed.new.out (omega (arith, r, c.put_listed.auto.out)))

pub copy_from_slice-requires : goal.copy_from_slice-requires
copy_from_slice-requires c =
    let a = c.args in
    let r = room_of_lem a.out.now a.number a.size.w a.size.h a.levels.now c.requires.block_right c.requires.room in
    length-take-le 4 c.put_listed.new.out (omega (arith, r, c.put_listed.auto.out)) ∙ sym (ap length c.to_le_bytes.ensures)

-- the bytes with the number put keep their length
long : (number d : List ℕ) → length number ≡ 4 → 4 ≤ length d → length (number ++ drop 4 d) ≡ length d
long number d e h = omega (arith, length-append number (drop 4 d), length-drop 4 d)

pub bounds-out-4 : goal.bounds-out-4
bounds-out-4 c =
    let a = c.args in
    let r = room_of_lem a.out.now a.number a.size.w a.size.h a.levels.now c.requires.block_right c.requires.room in
    let s = c.put_listed.auto.out in
    omega (arith, r, s, long c.copy_from_slice.new.self c.put_listed.new.out (ap length (c.copy_from_slice.ensures.after ∙ c.to_le_bytes.ensures)) (omega (arith, r, s)))

pub slice_bounds-put_map-end : goal.slice_bounds-put_map-end
slice_bounds-put_map-end c =
    let a = c.args in
    let r = room_of_lem a.out.now a.number a.size.w a.size.h a.levels.now c.requires.block_right c.requires.room in
    let s = c.put_listed.auto.out in
    let l = long c.copy_from_slice.new.self c.put_listed.new.out (ap length (c.copy_from_slice.ensures.after ∙ c.to_le_bytes.ensures)) (omega (arith, r, s)) in
    omega (arith, r, s, l, length-set (c.copy_from_slice.new.self ++ drop 4 c.put_listed.new.out) 4 c.side_byte.result)

pub put_map-requires : goal.put_map-requires
put_map-requires c =
    let a = c.args in
    let z = sized a.size.w a.size.h a.size.sides.0 a.size.sides.1 in
    let r = room_of_lem a.out.now a.number a.size.w a.size.h a.levels.now c.requires.block_right c.requires.room in
    let s = c.put_listed.auto.out in
    let l = long c.copy_from_slice.new.self c.put_listed.new.out (ap length (c.copy_from_slice.ensures.after ∙ c.to_le_bytes.ensures)) (omega (arith, r, s)) in
    let d = set (c.copy_from_slice.new.self ++ drop 4 c.put_listed.new.out) 4 c.side_byte.result in
    let k = length-set (c.copy_from_slice.new.self ++ drop 4 c.put_listed.new.out) 4 c.side_byte.result in
    let n = length a.levels.now in
    omega (
      arith,
      z.whole,
      c.requires.block_right,
      length-take-le (5 + n / 8 - 5) (drop 5 d) (omega (arith, length-drop 5 d, k, l, r, s)),
    )

pub returns : goal.returns
returns c =
    let a = c.args in
    let n = length a.levels.now in
    let map = map_of n (level_at a.levels.now) in
    let d = c.put_listed.new.out in
    let put = c.put_listed.ensures in
    let head = ap (λ (l : List ℕ). l ++ drop 4 d) (c.copy_from_slice.ensures.after ∙ c.to_le_bytes.ensures) ∙ over_front (four a.number) d refl in
    let e = set (c.copy_from_slice.new.self ++ drop 4 d) 4 c.side_byte.result in
    record {
      value = omega (arith, c.listed_length.ensures, of_length a.number a.size.w a.size.h a.levels.now c.requires.block_right);
      out_after = paste_record a.out.now a.number a.size.w a.size.h a.levels.now c.requires.block_right c.requires.room d c.put_listed.auto.out head
          c.side_byte.ensures c.put_listed.result put.starts (ap (λ (k : ℕ). 5 + n / 8 + k) c.listed_length.ensures) put.out_unchanged put.out_after
          (ap (λ (l : List ℕ). put_mid 5 (5 + n / 8 - 5) e l) c.put_map.ensures
          ∙ spliced e map 5 (5 + n / 8) (omega (arith, map_length n (level_at a.levels.now))));
    }
