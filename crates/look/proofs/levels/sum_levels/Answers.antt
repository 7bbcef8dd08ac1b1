-- `look::levels::sum_levels` meets its contract. Assumes nothing.
use Rattle.std.proofs.Common.{ℕ, ◌+◌, ◌*◌, nat_abs, ap, ◌∙◌, arith}
use mir.Syntax.{w32}
use mir.Facts.{to_z-of_z}
use Rattle.format.specs.Pieces.{number_at, of_word}
use Rattle.format.specs.Format.{listed_in}
use Rattle.look.proofs.Summed.{summed_none, summed_more}
use Rattle.look.proofs.levels.sum_levels.Goals as goal

pub loop-i-init : goal.loop-i-init
loop-i-init c = summed_none c.args.s.now

pub overflow_add-lower : goal.overflow_add-lower
overflow_add-lower c = omega (arith, c.loop-i.invariant.sum.lower_most)

pub overflow_add-upper : goal.overflow_add-upper
overflow_add-upper c = omega (arith, c.loop-i.invariant.sum.upper_most, c.unsigned_abs-magnitude.ensures.bound)

pub loop-i-preserved : goal.loop-i-preserved
unfolding listed_in
loop-i-preserved c =
    let a = c.args in
    let s = a.s.now in
    let i = c.loop-i.i in
    let word = c.number_at.ensures ∙ ap (λ (k : ℕ). number_at s (k + 4 * i)) c.requires.0 in
    let level = c.unsigned_abs-magnitude.ensures.value ∙ ap nat_abs (to_z-of_z {w = w32} (record { sfits = c.of_word-level.type_inv }) ∙ c.of_word-level.ensures ∙ ap of_word word) in
    summed_more c.loop-i.invariant level (omega (arith, c.unsigned_abs-magnitude.ensures.bound))
