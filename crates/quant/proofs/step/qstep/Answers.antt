-- `quant::step::qstep` meets its contract. Assumes nothing.
use mathlib.Core.Path.{◌∙◌}
use borrow.Author.Tests.{ne_eqb, le-leb, lt-leb}
use Rattle.quant.specs.Step.{step_of}
use Rattle.quant.proofs.step.qstep.Goals as goal

pub returns-then-index-eq0 : goal.returns-then-index-eq0
unfolding step_of
returns-then-index-eq0 c = rw c.if-index-eq0.true

pub returns-then-index-le255 : goal.returns-then-index-le255
unfolding step_of
returns-then-index-le255 c =
    let q = c.args.index in
    c.step_at.ensures ∙ rw (ne_eqb q 0 c.if-index-eq0.false, le-leb q 255 c.if-index-le255.true)

pub returns : goal.returns
unfolding step_of
returns c =
    let q = c.args.index in
    c.step_at-2.ensures ∙ rw (ne_eqb q 0 c.if-index-eq0.false, lt-leb q 255 c.if-index-le255.false)
