-- After i turns the first i levels and magnitudes are there.
use lib.IntN.{pos}
use lib.ListN.{get_or}
use Rattle.laws.proofs.Store.{Stored}
use Rattle.quant.specs.Level.{level_by, magnitude_by}
use Rattle.quant.proofs.scan.fill.Given as goal

abbrev pub invariant-loop-i : goal.invariant-loop-i
invariant-loop-i l =
    Stored l.levels l.initial.levels l.i (λ k. k) (λ k. level_by l.scale.inverse l.scale.threshold l.scale.bias (get_or l.named k (pos 0)))
    × Stored l.magnitudes l.initial.magnitudes l.i (λ k. k) (λ k. magnitude_by l.scale.inverse (get_or l.named k (pos 0)))
