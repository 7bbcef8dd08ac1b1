-- The last stage. Assumes nothing.
use Rattle.lines.proofs.Chain.{last_completed}
use Rattle.lanes.proofs.chain.LastStages.run.Goals as goal

pub returns : goal.returns
returns c = last_completed c.args.step c.requires c.halve.ensures c.zeroth.ensures
