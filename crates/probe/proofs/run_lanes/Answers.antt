-- `probe::run_lanes` meets its contract. Assumes nothing.
use mathlib.Core.Path.{sym, ◌∙◌}
use borrow.Author.Rules.{rules}
use mir.Syntax.{w32}
use mir.Facts.{to_z-of_z}
use Rattle.probe.proofs.Lanes.{refused, refused_kept, tested, past_kept, lanes_asked, lanes_ran}
use Rattle.probe.proofs.run_lanes.Goals as goal

pub returns-in_err-pass-clause-result_value : goal.returns-in_err-pass-clause-result_value
returns-in_err-pass-clause-result_value c =
    let a = c.args in
    search (rules, refused a.side a.kind a.shift _ a.lines a.start a.count a.src.now a.dst.now (to_z-of_z {w = w32} c.ranges.shift) c.in_err-pass.ensures.answer)

pub returns-in_err-pass-clause-dst_after : goal.returns-in_err-pass-clause-dst_after
returns-in_err-pass-clause-dst_after c =
    let a = c.args in
    refused_kept a.side a.kind a.shift _ a.lines a.start a.count a.src.now a.dst.now (to_z-of_z {w = w32} c.ranges.shift) c.in_err-pass.ensures.answer

pub returns-then-ends_past-clause-result_value : goal.returns-then-ends_past-clause-result_value
returns-then-ends_past-clause-result_value c =
    let a = c.args in
    let e = c.in_ok-pass.ensures in
    tested a.side a.kind a.shift _ a.lines a.start a.count a.src.now a.dst.now (to_z-of_z {w = w32} c.ranges.shift) e.answer e.as_asked.2 e.as_asked.3
    (sym c.ends_past.ensures ∙ c.if-ends_past.true)

pub returns-then-ends_past-clause-dst_after : goal.returns-then-ends_past-clause-dst_after
returns-then-ends_past-clause-dst_after c =
    let a = c.args in
    let e = c.in_ok-pass.ensures in
    past_kept a.side a.kind a.shift _ a.lines a.start a.count a.src.now a.dst.now (to_z-of_z {w = w32} c.ranges.shift) e.answer e.as_asked.2 e.as_asked.3
    (sym c.ends_past.ensures ∙ c.if-ends_past.true)

pub run-requires : goal.run-requires
run-requires c =
    let a = c.args in
    let e = c.in_ok-pass.ensures in
    lanes_asked a.side a.kind a.shift _ a.lines a.start a.count a.src.now a.dst.now (to_z-of_z {w = w32} c.ranges.shift) e.answer e.as_asked.2 e.as_asked.3
    (sym c.ends_past.ensures ∙ c.if-ends_past.false)

pub returns-clause-result_value : goal.returns-clause-result_value
returns-clause-result_value c =
    let a = c.args in
    let e = c.in_ok-pass.ensures in
    tested a.side a.kind a.shift _ a.lines a.start a.count a.src.now a.dst.now (to_z-of_z {w = w32} c.ranges.shift) e.answer e.as_asked.2 e.as_asked.3
    (sym c.ends_past.ensures ∙ c.if-ends_past.false)

pub returns-clause-dst_after : goal.returns-clause-dst_after
returns-clause-dst_after c =
    let a = c.args in
    let e = c.in_ok-pass.ensures in
    lanes_ran a.side a.kind a.shift _ a.lines a.start a.count a.src.now a.dst.now (to_z-of_z {w = w32} c.ranges.shift) e.answer e.as_asked.2 e.as_asked.3
    (sym c.ends_past.ensures ∙ c.if-ends_past.false) c.run.ensures
