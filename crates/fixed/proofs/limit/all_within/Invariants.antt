-- After some turns `ok` says whether the numbers gone over lie within the limit.
use mathlib.Core.Path.{◌≡◌}
use Rattle.fixed.specs.Limit.{all_within}
use Rattle.fixed.proofs.limit.all_within.Given as goal

abbrev pub invariant-loop-x : goal.invariant-loop-x
invariant-loop-x l = l.ok ≡ all_within l.limit l.x-index l.numbers
