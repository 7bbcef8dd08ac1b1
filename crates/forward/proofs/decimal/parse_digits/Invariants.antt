-- After some turns the number is below 2^24.
use Rattle.std.proofs.Common.{◌<◌, ◌^◌}
use Rattle.forward.proofs.decimal.parse_digits.Given as goal

abbrev pub invariant-loop-b : goal.invariant-loop-b
invariant-loop-b l = l.value < 2 ^ 24
