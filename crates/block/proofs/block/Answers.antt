-- `block::block` meets its contract. Assumes nothing.
use Rattle.answer.proofs.Answer.{kept, written}
use Rattle.block.specs.Call.{block_answer, scratch_after, output_after}
use Rattle.block.proofs.Accepted.{accepted}
use Rattle.block.proofs.Whole.{columns_asked, rows_asked, all_columns, all_rows}
use Rattle.block.proofs.block.Goals as goal

pub returns-in_err-shape-clause-scratch_after : goal.returns-in_err-shape-clause-scratch_after
unfolding scratch_after
returns-in_err-shape-clause-scratch_after c = kept _ _ c.in_err-shape.ensures.answer

pub returns-in_err-shape-clause-output_after : goal.returns-in_err-shape-clause-output_after
unfolding output_after
returns-in_err-shape-clause-output_after c = kept _ _ c.in_err-shape.ensures.answer

pub column_lines-requires : goal.column_lines-requires
unfolding block_answer
column_lines-requires c =
    let e = c.in_ok-shape.ensures in
    let asked = e.as_asked in
    rw (asked.0, asked.1) (columns_asked (accepted _ e.answer))

pub row_lines-requires : goal.row_lines-requires
unfolding block_answer
row_lines-requires c =
    let e = c.in_ok-shape.ensures in
    let asked = e.as_asked in
    rw (asked.0, asked.1, c.column_lines.auto.scratch) (rows_asked (accepted _ e.answer))

pub returns-clause-scratch_after : goal.returns-clause-scratch_after
unfolding block_answer scratch_after
returns-clause-scratch_after c =
    let e = c.in_ok-shape.ensures in
    let asked = e.as_asked in
    written _ e.answer (all_columns (accepted _ e.answer) c.args.scratch.now (rw (asked.0, asked.1, asked.2) at c.column_lines.ensures))

pub returns-clause-output_after : goal.returns-clause-output_after
unfolding block_answer output_after
returns-clause-output_after c =
    let e = c.in_ok-shape.ensures in
    let asked = e.as_asked in
    let ok = accepted _ e.answer in
    let a = c.args in
    written _ e.answer
    (all_rows ok a.scratch.now a.output.now ok.scratch_long (rw (asked.0, asked.1, asked.2) at c.column_lines.ensures)
    (rw (asked.0, asked.1, asked.3) at c.row_lines.ensures))
