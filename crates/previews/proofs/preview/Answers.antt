-- `previews::preview` meets its contract: its two ways out are the two cases of `preview_of`. Assumes nothing.
use native.Mathlib.Omega.{arith}
use lib.ListN.{length}
use Rattle.tickets.specs.Batch.{lines_of}
use Rattle.previews.proofs.Shown.{accepted, begins, front_asked, is_shown}
use Rattle.previews.proofs.preview.Goals as goal

pub offset_bounds-source-b : goal.offset_bounds-source-b
offset_bounds-source-b c =
    let e = c.in_ok-shape.ensures.answer in
    let a = c.args in
    omega (arith, begins a.ticket a.b (length a.source.now) (length a.target.now) (length a.preview.now) a.b.count (rw c.is_short-short.ensures at e))

pub slice_bounds-from-count : goal.slice_bounds-from-count
slice_bounds-from-count c =
    let e = c.in_ok-shape.ensures.answer in
    let a = c.args in
    (begins a.ticket a.b (length a.source.now) (length a.target.now) (length a.preview.now) a.b.count (rw c.is_short-short.ensures at e)).1

pub slice_bounds-from-start : goal.slice_bounds-from-start
slice_bounds-from-start c =
    let e = c.in_ok-shape.ensures.answer in
    let a = c.args in
    (begins a.ticket a.b (length a.source.now) (length a.target.now) (length a.preview.now) a.b.count (rw c.is_short-short.ensures at e)).1

pub lines-requires : goal.lines-requires
lines-requires c =
    let e = c.in_ok-shape.ensures in
    let asked = e.as_asked in
    rw (asked.0, asked.1) (front_asked _ _ c.args.source.now (accepted _ _ _ _ _ _ (rw c.is_short-short.ensures at e.answer)))

pub returns : goal.returns
unfolding lines_of
returns c =
    let e = c.in_ok-shape.ensures in
    let asked = e.as_asked in
    let a = c.args in
    is_shown a.ticket a.b a.source.now a.target.now a.preview.now (accepted _ _ _ _ _ _ (rw c.is_short-short.ensures at e.answer))
    (rw (asked.0, asked.1, asked.2, asked.3) at c.lines.ensures)
