-- `plane::tiles_ok` meets its contract. Assumes nothing.
use mathlib.Core.Bool.{true, false}
use Rattle.std.proofs.Common.{rules, tests}
use Rattle.std.proofs.lemmas.Iterator.{cases_from_all, YieldsList-from_slice}
use Rattle.plane.proofs.Clear.{asks_ok, all_ok}
use Rattle.plane.proofs.tiles_ok.Goals as goal

pub returns : goal.returns
returns c =
    let p = c.args.p.now in
    all_ok p _ (search rules)
    (cases_from_all _ _ _ (asks_ok p.w p.h true) (asks_ok p.w p.h false) c.all.ensures.ran (YieldsList-from_slice p.tiles cc) (λ x q k. search (rules, tests)) (λ x q k. search (rules, tests)))
