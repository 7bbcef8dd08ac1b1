-- `writer::admit::places_of` meets its contract. Assumes nothing.
use Rattle.std.proofs.Common.{sym, arith}
use Rattle.writer.proofs.Blocks.{place_none, place_step, place_within}
use Rattle.writer.proofs.admit.places_of.Goals as goal

pub loop-k-init : goal.loop-k-init
loop-k-init c = sym (place_none c.args.sides.now)

pub overflow_mul-place-in-loop-k-2 : goal.overflow_mul-place-in-loop-k-2
overflow_mul-place-in-loop-k-2 c = omega (arith, place_within c.args.sides.now c.args.count c.loop-k.k c.loop-k-test.true, c.requires.1)

pub overflow_add-place-in-loop-k : goal.overflow_add-place-in-loop-k
overflow_add-place-in-loop-k c =
    omega (arith, place_within c.args.sides.now c.args.count c.loop-k.k c.loop-k-test.true, c.requires.1, c.loop-k.invariant)

pub loop-k-preserved : goal.loop-k-preserved
loop-k-preserved c = omega (arith, c.loop-k.invariant, place_step c.args.sides.now c.loop-k.k)
