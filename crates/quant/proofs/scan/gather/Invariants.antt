-- After i turns the first i coefficients are there.
use lib.IntN.{pos}
use lib.ListN.{get_or}
use Rattle.laws.proofs.Store.{Stored}
use Rattle.quant.proofs.scan.gather.Given as goal

abbrev pub invariant-loop-i : goal.invariant-loop-i
invariant-loop-i l = Stored l.named l.initial.named l.i (λ k. k) (λ k. get_or l.coefficients (get_or l.places k 0) (pos 0))
