-- The code's tables have the shifts of every size, each in a pass's range. Assumes nothing.
use Rattle.sizes.proofs.Shift.{firsts, seconds, first_entry, second_entry}
use Rattle.sizes.proofs.Size.shifts.Goals as goal

pub invariant_of-result : goal.invariant_of-result
unfolding firsts
invariant_of-result c =
    let s = c.args.self in
    record { in_range = (first_entry s.w s.h s.sides.0 s.sides.1 c.log2.ensures.value c.log2-2.ensures.value).1 }

pub invariant_of-result-2 : goal.invariant_of-result-2
unfolding seconds
invariant_of-result-2 c =
    let s = c.args.self in
    record { in_range = (second_entry s.w s.h s.sides.0 s.sides.1 c.log2.ensures.value c.log2-2.ensures.value).1 }

pub returns : goal.returns
unfolding firsts seconds
returns c =
    let s = c.args.self in (
      (first_entry s.w s.h s.sides.0 s.sides.1 c.log2.ensures.value c.log2-2.ensures.value).0,
      (second_entry s.w s.h s.sides.0 s.sides.1 c.log2.ensures.value c.log2-2.ensures.value).0,
    )
