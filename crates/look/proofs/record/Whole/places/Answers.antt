-- `look::record::Whole::places` meets its contract. Assumes nothing.
use Rattle.std.proofs.Common.{◌*◌, ap₂, ◌∙◌}
use Rattle.look.proofs.record.Whole.places.Goals as goal

pub returns : goal.returns
returns c = c.places.ensures.0 ∙ ap₂ ◌*◌ c.size.ensures.0 c.size.ensures.1
