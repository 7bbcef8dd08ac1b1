-- `tickets::playing::play` meets its contract: after i turns the state is what the first i batches leave. Assumes nothing.
use mathlib.Core.Path.{◌∙◌}
use native.Mathlib.Omega.{arith}
use mir.Facts.{to_z-of_z}
use mir.Syntax.{w64}
use Rattle.tickets.specs.Run.{state_at}
use Rattle.tickets.proofs.Played.{going_none, turn_small, going_on, going_all, not_played, as_settled}
use Rattle.tickets.proofs.playing.play.Goals as goal

pub returns-in-Err : goal.returns-in-Err
returns-in-Err c =
    let a = c.args in
    let e = not_played a.residuals.now (state_at a.ticket a.scratch.now a.output.now) a.kinds.now a.starts.now a.counts.now a.answered.now c.in-Err.why c.in-Err.ensures.answer in
    record { answered_after = e; as_settled = as_settled _ _ _ _ _ _ _ _ _ e }

pub loop-i-init : goal.loop-i-init
loop-i-init c = going_none _ _ _ _ _ _

pub signed-requires : goal.signed-requires
signed-requires c = turn_small _ _ _ _ c.loop-i.invariant (omega (arith, c.in-Ok.ensures.within.0)) c.any_batch-done.ensures

pub loop-i-preserved : goal.loop-i-preserved
loop-i-preserved c =
    going_on _ _ _ _ c.loop-i.invariant (omega (arith, c.in-Ok.ensures.within.0)) c.any_batch-done.ensures
    (to_z-of_z {w = w64} (record { sfits = c.signed.type_inv }) ∙ c.signed.ensures)

pub returns : goal.returns
returns c =
    let k = c.in-Ok.ensures in
    let e = going_all _ _ _ _ _ _ c.loop-i.current c.loop-i.invariant (omega (arith, k.within.0)) (omega (arith, k.within)) k.answer in
    record { answered_after = e; as_settled = as_settled _ _ _ _ _ _ _ _ _ e }
