-- `plane::rows_of` meets its contract. Assumes nothing.
use native.Mathlib.Omega.{arith}
use lib.ListN.{length}
use Rattle.std.proofs.lemmas.Result.{err_from_is_err_and}
use Rattle.plane.proofs.Known.{tile_known}
use Rattle.plane.proofs.Rows.{RowsAsked, plane_small, rows_short, rows_refused, rows_asked, rows_done}
use Rattle.plane.proofs.rows_of.Goals as goal
use Rattle.plane.proofs.rows_of.Goals.{In_ok-answer}

asked : (c : In_ok-answer) → let a = c.args in RowsAsked a.p.now c.in_ok-tile.tile a.start a.count (length a.output.now)
asked c =
    let e = c.in_ok-tile.ensures in
    let a = c.args in
    rw e.found.1
    (rows_asked a.p.now a.room a.n a.start a.count a.scratch.now a.output.now e.answer c.if-output-p.false (rw (e.found.1, c.rows-batch.ensures) at c.in_ok-answer.ensures))

pub overflow_mul-p : goal.overflow_mul-p
overflow_mul-p c = omega (arith, plane_small (tile_known _ _ _ _ c.in_ok-tile.ensures.answer))

pub returns-then-output-p : goal.returns-then-output-p
returns-then-output-p c = rows_short _ _ _ _ _ _ _ c.in_ok-tile.ensures.answer c.if-output-p.true

pub returns-in_err-answer : goal.returns-in_err-answer
returns-in_err-answer c =
    let e = c.in_ok-tile.ensures in
    let f = c.from_residual-in_err-answer in
    let p = err_from_is_err_and f.result f.ensures.1 in
    let a = c.args in
    rw (p.1, p.2)
    (rows_refused a.p.now a.room a.n a.start a.count a.scratch.now a.output.now e.answer c.if-output-p.false _ (rw (e.found.1, c.rows-batch.ensures) at c.in_err-answer.ensures))

pub overflow_add-tile : goal.overflow_add-tile
overflow_add-tile c = omega (arith, (asked c.before.before).low)

pub put_lines-requires : goal.put_lines-requires
put_lines-requires c = let k = asked c.before.before.before in (k.some, omega (arith, k.long, c.preview.auto.preview), k.across, k.down)

pub with_batch-requires : goal.with_batch-requires
with_batch-requires c =
    let accepted = c.before.before.before.before.before in
    rw c.rows-batch.ensures (asked accepted).few

pub returns : goal.returns
returns c =
    let e = c.in_ok-tile.ensures in
    let a = c.args in
    rw (c.with_batch.ensures, e.found.1, c.rows-batch.ensures)
    (rows_done a.p.now a.room a.n a.start a.count a.scratch.now a.output.now e.answer c.if-output-p.false (rw (e.found.1, c.rows-batch.ensures) at c.in_ok-answer.ensures) (rw e.found.1 at c.put_lines.ensures))
