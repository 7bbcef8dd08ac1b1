-- `look::record::judge_record` meets its contract. Assumes nothing.
use Rattle.std.proofs.Common.{arith}
use Rattle.look.proofs.Looked.{listed_room}
use Rattle.look.proofs.record.judge_record.Goals as goal

pub sum_levels-sum-requires : goal.sum_levels-sum-requires
sum_levels-sum-requires c = let h = c.in-Ok.ensures in listed_room c.args.s.now c.places-places.ensures h.1 h.0

pub overflow_mul-result : goal.overflow_mul-result
overflow_mul-result c = let h = c.in-Ok.ensures in omega (arith, listed_room c.args.s.now c.places-places.ensures h.1 h.0)

pub overflow_add-result : goal.overflow_add-result
overflow_add-result c = let h = c.in-Ok.ensures in omega (arith, listed_room c.args.s.now c.places-places.ensures h.1 h.0, c.places-places.type_inv)
