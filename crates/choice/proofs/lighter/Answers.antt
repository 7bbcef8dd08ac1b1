-- `choice::lighter` meets its contract. Assumes nothing.
use mathlib.Core.Path.{sym, ◌∙◌}
use lib.Seq.{length-take-le}
use Rattle.choice.specs.Choice.{lighter_of}
use Rattle.choice.proofs.Accepted.{accepted, first_given, second_given, cut}
use Rattle.choice.proofs.lighter.Goals as goal

pub returns-in-Err : goal.returns-in-Err
unfolding lighter_of
returns-in-Err c = rw (sym c.in-Err.ensures)

pub slice_bounds-result-end-in-Ok-eq0 : goal.slice_bounds-result-end-in-Ok-eq0
slice_bounds-result-end-in-Ok-eq0 c = sym (length-take-le _ _ (accepted _ _ _ _ c.in-Ok-eq0.ensures).in_first)

pub returns-in-Ok-eq0 : goal.returns-in-Ok-eq0
returns-in-Ok-eq0 c =
    let a = c.args in
    let e = c.in-Ok-eq0.ensures in
    cut a.first a.count (accepted _ _ _ _ e).in_first ∙ first_given a.first a.second a.count _ e c.in-Ok-eq0.field-0-test

pub slice_bounds-result-end-in-Ok : goal.slice_bounds-result-end-in-Ok
slice_bounds-result-end-in-Ok c = sym (length-take-le _ _ (accepted _ _ _ _ c.in-Ok.ensures).in_second)

pub returns-in-Ok : goal.returns-in-Ok
returns-in-Ok c =
    let a = c.args in
    let e = c.in-Ok.ensures in
    cut a.second a.count (accepted _ _ _ _ e).in_second ∙ second_given a.first a.second a.count _ e c.in-Ok.field-0-test.1
