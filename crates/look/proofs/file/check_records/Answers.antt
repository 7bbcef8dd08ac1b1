-- `look::file::check_records` meets its contract. Assumes nothing.
use Rattle.std.proofs.Common.{arith}
use Rattle.std.proofs.lemmas.Result.{err_from_is_err_and}
use Rattle.look.proofs.Looks.{looks_damage, looks_all, looks_few, told_room}
use Rattle.look.proofs.file.check_records.Goals as goal

pub returns-in_err-record : goal.returns-in_err-record
returns-in_err-record c =
    let why = c.in_err-record.field-0.0.why in
    let p = err_from_is_err_and c.from_residual.result c.from_residual.ensures.1 in
    rw (p.1, p.2) (looks_damage c.loop-at.invariant c.loop-at-test.true why c.in_err-record.ensures.0)

pub overflow_add-places : goal.overflow_add-places
overflow_add-places c =
    let e = c.in_ok-record.ensures in
    omega (arith, looks_few c.loop-at.invariant c.loop-at-test.true e.0 e.2)

pub overflow_add-at : goal.overflow_add-at
overflow_add-at c = omega (arith, told_room c.loop-at.invariant.passed c.loop-at-test.true c.in_ok-record.ensures.0)

pub loop-at-smaller : goal.loop-at-smaller
loop-at-smaller c = omega (arith, told_room c.loop-at.invariant.passed c.loop-at-test.true c.in_ok-record.ensures.0)

pub returns : goal.returns
returns c = looks_all c.loop-at.invariant (omega arith)
