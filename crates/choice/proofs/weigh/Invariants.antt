-- After some turns the halves of the magnitudes gone over are added, and bit 31 tells whether their levels are near.
use mathlib.Core.Path.{◌≡◌}
use Prim.Native.Nat.{◌^◌}
use lib.Dec.{ltb}
use lib.IntN.{pos, nat_abs}
use lib.ListN.{get_or}
use Rattle.laws.proofs.Halves.{Halves}
use Rattle.choice.proofs.weigh.Given as goal
use Rattle.format.specs.Pieces.{are_near}

abbrev pub invariant-loop-level : goal.invariant-loop-level
invariant-loop-level l = Halves (λ k. nat_abs (get_or l.levels k (pos 0))) l.lower l.upper l.level-index × (ltb l.reach (2 ^ 31) ≡ are_near l.level-index l.levels)
