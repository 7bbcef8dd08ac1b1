-- `fixed::rect_scale` meets its contract. Assumes nothing.
use mathlib.Core.Path.{◌∙◌, ap}
use mir.Facts.{to_z-of_z}
use mir.Syntax.{w32}
use Rattle.laws.specs.Integer.{wrap32}
use Rattle.laws.proofs.Machine.{read_at}
use Rattle.fixed.proofs.Scale.{scaled_read}
use Rattle.fixed.proofs.rect_scale.Goals as goal

pub returns : goal.returns
returns c = read_at w32 _ c.wrap.type_inv ∙ c.wrap.ensures ∙ ap wrap32 (scaled_read c.ranges.v (c.from.ensures ∙ to_z-of_z c.ranges.v))
