-- `tickets::running::run` meets its contract: the two ways out are the two cases of `batch`. Assumes nothing.
use Rattle.tickets.proofs.Taken.{taken, batch_room, few_lines, refused_is, accepted_is}
use Rattle.tickets.specs.Batch.{lines_of}
use Rattle.tickets.proofs.running.run.Goals as goal

pub lines-requires : goal.lines-requires
lines-requires c =
    let e = c.in-Ok.ensures in
    let asked = e.as_asked in
    rw (asked.0, asked.1) (batch_room c.args.ticket c.args.b (taken _ _ _ _ _ _ e.answer).0)

pub with_batch-requires : goal.with_batch-requires
with_batch-requires c = few_lines c.args.ticket c.args.b (taken _ _ _ _ _ _ c.in-Ok.ensures.answer).0

pub returns-in-Ok : goal.returns-in-Ok
unfolding lines_of
returns-in-Ok c =
    let e = c.in-Ok.ensures in
    let asked = e.as_asked in
    accepted_is c.args.ticket c.args.b c.args.source.now c.args.target.now e.answer c.with_batch.ensures
    (rw (asked.0, asked.1, asked.2, asked.3) at c.lines.ensures)

pub returns-in-Err : goal.returns-in-Err
returns-in-Err c = refused_is c.args.ticket c.args.b c.args.source.now c.args.target.now c.in-Err.why c.in-Err.ensures.answer
