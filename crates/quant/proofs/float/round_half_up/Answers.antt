-- `quant::float::round_half_up` meets its contract. Assumes nothing.
use mathlib.Core.Path.{sym, subst}
use native.Mathlib.Nat.{mod-le}
use native.Mathlib.Omega.{arith}
use lib.Dec.{T}
use lib.Ieee.{Float, binary32, fits, of_bits, to_bits}
use Rattle.quant.proofs.Rounding.{no_sign_no_nan, below_half, stays}
use Rattle.quant.proofs.Cut.{Raised, raised, Cutting, cutting}
use Rattle.quant.proofs.float.round_half_up.Goals as goal
use Rattle.quant.proofs.float.round_half_up.Lts as lts
use Rattle.quant.proofs.float.round_half_up.Reads as reads
use Rattle.quant.proofs.float.round_half_up.Tie as tie

-- what owning an f32 tells: the format holds it
held : (c : lts.Start tie.the-claims reads.Pre reads.Post) → T (fits binary32 c.args.x)
held c = subst T (sym c.well_formed.0.1) tt

-- the value whose bits the code reads, and what it does with them
read : (c : goal.After-at_least_one-bits) → Raised c.args.x c.at_least_one-bits.result
unfolding of_bits
read c =
    let start = c.before.before.before in
    subst (λ (y : Float). Raised start.args.x y) (sym c.at_least_one-bits.ensures)
    (raised start.args.x (held start) start.requires c.if-x.false c.if-x-2.false)

worked : (c : goal.After-at_least_one-bits) → Cutting c.args.x (to_bits binary32 c.at_least_one-bits.result)
worked c = cutting (read c)

pub returns-then-x : goal.returns-then-x
unfolding of_bits
returns-then-x c = below_half c.args.x c.requires c.if-x.true

pub returns-then-x-2 : goal.returns-then-x-2
unfolding of_bits
returns-then-x-2 c = stays c.args.x c.requires (held c.before.before) c.if-x-2.true

pub float_to_bits-bits : goal.float_to_bits-bits
float_to_bits-bits c = no_sign_no_nan c.at_least_one-bits.result (read c).no_sign

pub overflow_sub-ones : goal.overflow_sub-ones
overflow_sub-ones c = omega (arith, (worked c).to)

pub overflow_shl-ones : goal.overflow_shl-ones
overflow_shl-ones c = omega (arith, (worked c).from)

pub overflow_add-up : goal.overflow_add-up
overflow_add-up c = record { fits = (worked c).room }

pub nonzero_rem-result : goal.nonzero_rem-result
nonzero_rem-result c = (worked c).some

pub overflow_sub-result : goal.overflow_sub-result
overflow_sub-result c = mod-le _ _

pub float_from_bits-result : goal.float_from_bits-result
float_from_bits-result c = (worked c).number

pub returns : goal.returns
returns c = (worked c).rounds
