-- `quant::float::sign` meets its contract, by the sign. Assumes nothing.
use mathlib.Core.Path.{sym, ◌∙◌}
use mathlib.Core.Bool.{true, false}
use lib.Ieee.{neg, of_bits}
use Rattle.quant.proofs.Written.{one_signed}
use Rattle.quant.proofs.float.sign.Goals as goal

pub returns-then-is_sign_negative : goal.returns-then-is_sign_negative
unfolding of_bits neg
returns-then-is_sign_negative c = one_signed c.args.x true c.requires (sym c.is_sign_negative.ensures ∙ c.if-is_sign_negative.true)

pub returns-else-is_sign_negative : goal.returns-else-is_sign_negative
unfolding of_bits
returns-else-is_sign_negative c = one_signed c.args.x false c.requires (sym c.is_sign_negative.ensures ∙ c.if-is_sign_negative.false)
