-- `reader::read::fill` meets its contract. Assumes nothing.
use Rattle.std.proofs.Common.{ℕ, ◌+◌, ◌-◌, ◌*◌, ◌≤◌, List, ℤ, [], ◌∷◌, length, drop, set, sym, ap, subst, ◌∙◌, arith}
use borrow.Rule.Slice.PartMut.{put_mid}
use Rattle.laws.proofs.Laid.{length_tab}
use Rattle.laws.proofs.Part.{rest_is}
use Rattle.laws.proofs.Pasted.{spliced}
use Rattle.laws.specs.Store.{tab, over}
use Rattle.format.specs.Pieces.{number_at}
use Rattle.format.specs.Format.{width_in, height_in, places_in, level_in, length_in}
use Rattle.reader.specs.Read.{numbers_of, sides_of, levels_of}
use Rattle.reader.proofs.Filling.{filling_none, now_next, next_room, filling_more, filled_all, levels_long, numbers_length}
use Rattle.laws.proofs.Pasted.{over_whole}
use Rattle.reader.proofs.read.fill.Goals as goal

pub loop-k-init : goal.loop-k-init
loop-k-init c = let a = c.args in filling_none a.bytes.now a.numbers.now a.sides.now a.levels.now (length a.numbers.now) c.requires.bytes_right

pub invariant_of-whole : goal.invariant_of-whole
invariant_of-whole c =
    record {
      whole = subst (λ (t : List ℕ). length_in t ≤ length t) (sym (rest_is c.args.bytes.now c.loop-k.at))
          (now_next c.loop-k.invariant c.requires.bytes_right c.loop-k-test.true).ok.room;
    }

pub overflow_add-end : goal.overflow_add-end
overflow_add-end c =
    let places = c.places.ensures ∙ ap (λ (t : List ℕ). places_in t) (rest_is c.args.bytes.now c.loop-k.at) in
    omega (arith, next_room c.loop-k.invariant c.requires.bytes_right c.loop-k-test.true c.requires.room.1, places)

pub offset_bounds-levels-place : goal.offset_bounds-levels-place
offset_bounds-levels-place c =
    omega (arith, next_room c.loop-k.invariant c.requires.bytes_right c.loop-k-test.true c.requires.room.1, levels_long c.loop-k.invariant c.requires.room.1)

pub slice_bounds-put_block-end-in-loop-k : goal.slice_bounds-put_block-end-in-loop-k
slice_bounds-put_block-end-in-loop-k c =
    let places = c.places.ensures ∙ ap (λ (t : List ℕ). places_in t) (rest_is c.args.bytes.now c.loop-k.at) in
    omega (arith, next_room c.loop-k.invariant c.requires.bytes_right c.loop-k-test.true c.requires.room.1, levels_long c.loop-k.invariant c.requires.room.1, places)

pub loop-k-preserved : goal.loop-k-preserved
loop-k-preserved c =
    let l = c.loop-k in
    let t = drop l.at c.args.bytes.now in
    let lent = rest_is c.args.bytes.now l.at in
    let put = c.put_block-at.ensures in
    let places = c.places.ensures ∙ ap (λ (t : List ℕ). places_in t) lent in
    let n = c.places.result in
    let levels = put.levels_after ∙ ap (λ (t : List ℕ). tab (places_in t) (level_in t)) lent in
    filling_more l.invariant c.requires.bytes_right c.loop-k-test.true (put.value ∙ ap length_in lent) places c.loop-k-test.true (omega (arith, c.loop-k-test.true)) c.requires.room.1
    (ap (λ (v : ℕ). set l.numbers l.k v) (put.number_after ∙ ap (λ (t : List ℕ). number_at t 0) lent))
    (ap (λ (x : List ℕ). put_mid (2 * l.k) (2 * l.k + 2 - 2 * l.k) l.sides x) (put.sides_after ∙ ap (λ (t : List ℕ). width_in t ∷ height_in t ∷ []) lent)
    ∙ spliced l.sides (width_in t ∷ height_in t ∷ []) (2 * l.k) (2 * l.k + 2) (omega arith))
    (ap (λ (x : List ℤ). put_mid l.place (l.place + n - l.place) l.levels x) levels
    ∙ spliced l.levels (tab (places_in t) (level_in t)) l.place (l.place + n) (omega (arith, places, length_tab (places_in t) (level_in t))))

pub returns : goal.returns
returns c =
    let i = c.loop-k.invariant in
    let a = c.args in
    let e = sym (filled_all i c.requires.bytes_right (omega arith)) in
    record {
      numbers_after = i.numbers_are ∙ over_whole (numbers_of i.done) a.numbers.now (omega (arith, numbers_length i.done, i.many)) ∙ ap (λ bs. numbers_of bs) e;
      sides_after = i.sides_are ∙ ap (λ bs. over (sides_of bs) a.sides.now) e;
      levels_after = i.levels_are ∙ ap (λ bs. over (levels_of bs) a.levels.now) e;
    }
