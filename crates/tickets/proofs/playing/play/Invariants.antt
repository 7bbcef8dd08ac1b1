-- After i turns the state is what the first i batches leave, and the first i answers are written.
use Rattle.tickets.specs.Run.{state_at}
use Rattle.tickets.specs.Play.{batches_of}
use Rattle.tickets.proofs.Played.{Going}
use Rattle.tickets.proofs.playing.play.Given as goal

abbrev pub invariant-loop-i : goal.invariant-loop-i
invariant-loop-i l =
    Going l.residuals (state_at l.initial.current l.initial.scratch l.initial.output) (batches_of l.kinds l.starts l.counts) l.initial.answered l.i l.current l.scratch l.output l.answered
