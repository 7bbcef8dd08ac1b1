use mathlib.Core.Path.{◌∙◌}
use Rattle.std.proofs.lemmas.Int.{wrapping_add_is}
use Rattle.laws.proofs.Machine.{int_wrap_is}
use mir.Syntax.{w32}
use Rattle.fixed.proofs.wrapping_add.Goals as goal

pub returns : goal.returns
returns c = wrapping_add_is w32 c.args.a c.args.b c.ranges.a c.ranges.b ∙ int_wrap_is _
