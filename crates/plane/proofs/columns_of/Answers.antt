-- `plane::columns_of` meets its contract. Assumes nothing.
use Rattle.std.proofs.lemmas.Result.{err_from_is_err_and}
use Rattle.plane.proofs.Ways.{columns_refused, columns_done}
use Rattle.plane.proofs.columns_of.Goals as goal

pub returns-in_err-answer : goal.returns-in_err-answer
returns-in_err-answer c =
    let e = c.in_ok-tile.ensures in
    let f = c.from_residual-in_err-answer in
    let p = err_from_is_err_and f.result f.ensures.1 in
    rw (p.1, p.2) (columns_refused _ _ _ _ _ _ e.answer c.run-done.result (rw e.found.1 at c.run-done.ensures) c.in_err-answer.was)

pub returns : goal.returns
returns c =
    let e = c.in_ok-tile.ensures in
    rw e.found.1 (columns_done _ _ _ _ _ _ e.answer c.run-done.result (rw e.found.1 at c.run-done.ensures) c.in_ok-answer.was)
