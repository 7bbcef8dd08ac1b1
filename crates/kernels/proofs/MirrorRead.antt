-- The mirror rule as it is stated, at every side. Assumes nothing.
use lib.Dec.{lit<}
use Rattle.sizes.proofs.Side.{each_side}
use Rattle.kernels.specs.Mirror.{MirrorRule}
use Rattle.kernels.proofs.Mirror.{Mirrors, mirror}

pub mirror_rule : MirrorRule
unfolding Mirrors
mirror_rule n k c s hk hc =
    each_side Mirrors (mirror 1 (lit< tt)) (mirror 2 (lit< tt)) (mirror 3 (lit< tt)) (mirror 4 (lit< tt)) n s k c hk hc
