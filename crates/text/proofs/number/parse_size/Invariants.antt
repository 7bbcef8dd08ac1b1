-- After some turns the size has at most 18 digits.
use Rattle.std.proofs.Common.{◌<◌, ◌^◌}
use Rattle.text.proofs.number.parse_size.Given as goal

abbrev pub invariant-loop-b : goal.invariant-loop-b
invariant-loop-b l = l.size < 10 ^ 18
