-- What `dc_tx_scale` answers is small. Assumes nothing.
use Prim.Native.Nat.{ℕ, ◌+◌, ◌-◌, ◌/◌, ◌<◌, ◌^◌}
use mathlib.Core.Bool.{Bool, true, false, cond}
use native.Mathlib.Omega.{arith}
use lib.Dec.{T, leb}
use Rattle.answer.specs.Answer.{is_small}
use Rattle.answer.proofs.Answer.{lowest_small}
use Rattle.sizes.specs.Size.{log_of, scale_of, dc_tx_scale}
use Rattle.sizes.proofs.Side.{log_bounds}

pub scale_small : (w h : ℕ) → T (is_small (dc_tx_scale w h))
unfolding dc_tx_scale scale_of
scale_small w h = lowest_small _ _ (pick (leb (log_of w + log_of h) 8))
  where
    pick : (b : Bool) → cond b 0 ((log_of w + log_of h - 7) / 2) < 2 ^ 63
    pick true = omega arith
    pick false = omega (arith, log_bounds w, log_bounds h)
