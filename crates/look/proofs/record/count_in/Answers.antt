-- `look::record::count_in` meets its contract. Assumes nothing.
use Rattle.std.proofs.Common.{◌≡◌, ◌+◌, ◌*◌, sym, ap, ◌∙◌, arith}
use Rattle.format.specs.Format.{bit_in, count_in}
use Rattle.format.proofs.Listed.{standing_le}
use Rattle.look.proofs.Counted.{count_none, count_byte}
use Rattle.look.proofs.record.count_in.Goals as goal

pub loop-j-init : goal.loop-j-init
loop-j-init c = sym (count_none _)

pub overflow_add-count-in-loop-j : goal.overflow_add-count-in-loop-j
overflow_add-count-in-loop-j c =
    let s = c.args.s.now in
    let j = c.loop-j.j in
    omega (arith, c.loop-j.invariant, count_byte s j (c.type_inv.s (5 + j)).fits, standing_le (bit_in s) (8 * (j + 1)))

pub loop-j-preserved : goal.loop-j-preserved
loop-j-preserved c =
    let s = c.args.s.now in
    let j = c.loop-j.j in
    omega (arith, c.loop-j.invariant, count_byte s j (c.type_inv.s (5 + j)).fits)

pub returns : goal.returns
returns c =
    let a = c.args in
    let done : 8 * c.loop-j.j ≡ a.n = omega arith in
    c.loop-j.invariant ∙ ap (count_in a.s.now) done
