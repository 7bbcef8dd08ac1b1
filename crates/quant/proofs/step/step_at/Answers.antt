-- `quant::step::step_at` meets its contract: one test over every index. Assumes nothing.
use Rattle.quant.specs.Step.{steps}
use Rattle.quant.proofs.Shifted.{shifted_is}
use Rattle.quant.proofs.step.step_at.Goals as goal

pub returns : goal.returns
unfolding steps
returns c = shifted_is c.args.q c.requires.0 c.requires.1
