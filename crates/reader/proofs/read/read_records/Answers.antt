-- `reader::read::read_records` meets its contract. Assumes nothing.
use Rattle.std.proofs.Common.{ℕ, List, length, ◌∙◌, arith, rules, sym, ap}
use Rattle.std.proofs.lemmas.List.{length-take-le}
use Rattle.laws.specs.Store.{over}
use Rattle.answer.specs.Answer.{answers}
use Rattle.answer.proofs.Answer.{kept, written}
use Rattle.format.specs.Format.{parse}
use Rattle.reader.specs.Read.{numbers_after, sides_after, levels_after}
use Rattle.laws.proofs.Pasted.{over_front}
use Rattle.reader.proofs.Lent.{short_room, read_damaged, read_short, read_done}
use Rattle.reader.proofs.read.read_records.Goals as goal

pub returns-in_err-checked : goal.returns-in_err-checked
unfolding numbers_after sides_after levels_after
returns-in_err-checked c =
    let a = c.args in
    let e = read_damaged (length a.numbers.now) (length a.sides.now) (length a.levels.now) (parse a.bytes.now) _ c.in_err-checked.ensures in
    record { result_value = search (rules, e); numbers_after = kept _ _ e; sides_after = kept _ _ e; levels_after = kept _ _ e }

pub returns-then-numbers-count : goal.returns-then-numbers-count
unfolding numbers_after sides_after levels_after
returns-then-numbers-count c =
    let a = c.args in
    let k = c.in_ok-checked.ensures in
    let e = read_short (length a.numbers.now) (length a.sides.now) (length a.levels.now) (parse a.bytes.now) _ _ k.0 k.1 c.if-numbers-count.true in
    record { result_value = e; numbers_after = kept _ _ e; sides_after = kept _ _ e; levels_after = kept _ _ e }

pub fill-requires : goal.fill-requires
fill-requires c =
    let a = c.args in
    let n = c.in_ok-checked.checked in
    let k = c.in_ok-checked.ensures in
    let r = short_room n.blocks n.places (length a.numbers.now) (length a.sides.now) (length a.levels.now) c.if-numbers-count.false in
    let long = length-take-le n.blocks a.numbers.now r.0 in
    record { bytes_right = sym k.0 ∙ ap answers (sym long); room = (omega (arith, long, r.1), omega (arith, k.1, r.2)) }

pub returns : goal.returns
unfolding numbers_after sides_after levels_after
returns c =
    let a = c.args in
    let n = c.in_ok-checked.checked in
    let k = c.in_ok-checked.ensures in
    let f = c.fill.ensures in
    let r = short_room n.blocks n.places (length a.numbers.now) (length a.sides.now) (length a.levels.now) c.if-numbers-count.false in
    let long = length-take-le n.blocks a.numbers.now r.0 in
    let e = read_done (length a.numbers.now) (length a.sides.now) (length a.levels.now) (parse a.bytes.now) _ _ k.0 k.1 c.if-numbers-count.false in
    let numbers = over_front c.fill.new.numbers a.numbers.now (c.fill.auto.numbers ∙ long)
    ∙ ap (λ (l : List ℕ). over l a.numbers.now) f.numbers_after in
    record { result_value = e; numbers_after = written _ e numbers; sides_after = written _ e f.sides_after; levels_after = written _ e f.levels_after }
