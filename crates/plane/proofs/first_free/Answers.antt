-- `plane::first_free` meets its contract. Assumes nothing.
use mathlib.Core.Bool.{true, false}
use Rattle.std.proofs.Common.{rules, tests}
use Rattle.std.proofs.lemmas.Iterator.{IsFirst-from_position, YieldsList-from_slice}
use Rattle.plane.proofs.Smallest.{asks_free, free_number}
use Rattle.plane.proofs.first_free.Goals as goal

pub returns-clause-value : goal.returns-clause-value
returns-clause-value c =
    free_number c.args.p.now _ (search rules)
    (IsFirst-from_position _ _ _ (asks_free true) (asks_free false) c.position.ensures.ran (YieldsList-from_slice c.args.p.now.tiles cc) (λ x q k. search (rules, tests)) (λ x q k. search (rules, tests)))
