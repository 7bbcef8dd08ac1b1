-- After some turns the numbers gone over are scaled, and those that follow are as they were.
use Prim.Native.Nat.{◌+◌}
use Rattle.laws.proofs.Store.{Stored}
use Rattle.block.specs.Lines.{scaled_at}
use Rattle.block.proofs.shape.scale.Given as goal

abbrev pub invariant-loop-i : goal.invariant-loop-i
invariant-loop-i l = Stored l.numbers l.initial.numbers l.i (λ k. l.at + k) (scaled_at l.initial.numbers l.at)
