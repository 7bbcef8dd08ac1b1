-- `totals::add_up` meets its contract. Assumes nothing.
use Rattle.std.proofs.Common.{◌∙◌, arith}
use Rattle.std.proofs.lemmas.Result.{err_from_is_err_and}
use Rattle.look.proofs.Looks.{told_room}
use Rattle.totals.proofs.Added.{added_none, added_more, added_small, says_totals, says_damage, says_long}
use Rattle.totals.proofs.add_up.Goals as goal

pub returns-then-bytes-gt-LONGEST : goal.returns-then-bytes-gt-LONGEST
returns-then-bytes-gt-LONGEST c = says_long c.args.bytes.now (omega arith)

pub loop-at-init : goal.loop-at-init
loop-at-init c = added_none c.args.bytes.now

pub returns-in_err-record : goal.returns-in_err-record
returns-in_err-record c =
    let why = c.in_err-record.field-0.0.why in
    let p = err_from_is_err_and c.from_residual.result c.from_residual.ensures.1 in
    rw (p.1, p.2) (says_damage c.loop-at.invariant c.loop-at-test.true (omega arith) why c.in_err-record.ensures.0)

pub overflow_add-totals : goal.overflow_add-totals
overflow_add-totals c =
    let e = c.in_ok-record.ensures in
    omega (arith, added_small c.loop-at.invariant c.loop-at-test.true (λ i. (c.type_inv.bytes i).fits) e.0 (omega arith) e.3 e.4)

pub overflow_add-totals-in-loop-at : goal.overflow_add-totals-in-loop-at
overflow_add-totals-in-loop-at c =
    let e = c.in_ok-record.ensures in
    omega (arith, added_small c.loop-at.invariant c.loop-at-test.true (λ i. (c.type_inv.bytes i).fits) e.0 (omega arith) e.3 e.4)

pub overflow_add-totals-in-loop-at-2 : goal.overflow_add-totals-in-loop-at-2
overflow_add-totals-in-loop-at-2 c =
    let e = c.in_ok-record.ensures in
    omega (arith, added_small c.loop-at.invariant c.loop-at-test.true (λ i. (c.type_inv.bytes i).fits) e.0 (omega arith) e.3 e.4)

pub loop-at-smaller : goal.loop-at-smaller
loop-at-smaller c =
    let e = c.in_ok-record.ensures in
    omega (arith, told_room c.loop-at.invariant.passed c.loop-at-test.true e.0)

pub overflow_add-at : goal.overflow_add-at
overflow_add-at c =
    let e = c.in_ok-record.ensures in
    omega (arith, told_room c.loop-at.invariant.passed c.loop-at-test.true e.0)

pub loop-at-preserved : goal.loop-at-preserved
loop-at-preserved c =
    let e = c.in_ok-record.ensures in
    added_more c.loop-at.invariant c.loop-at-test.true (λ i. (c.type_inv.bytes i).fits) e.0 (c.from-low.ensures ∙ e.1) e.3 e.4

pub returns : goal.returns
returns c = says_totals c.loop-at.invariant (omega arith) (omega arith)
