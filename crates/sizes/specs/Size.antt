-- The sides of a block, their logarithms, and `dc_tx_scale`.
use Rattle.std.specs.Prelude.{Bool, cond, not, ◌&&◌, ◌||◌, [], ◌∷◌, ℕ, ◌+◌, ◌-◌, ◌/◌, eqb, leb}
use Rattle.answer.specs.Answer.{Answer, lowest}

-- a side is 4, 8, 16 or 32
unfoldable pub is_side : ℕ → Bool
is_side n = eqb n 4 || (eqb n 8 || (eqb n 16 || eqb n 32))

-- log2 of a side; 5 where n is no side
unfoldable pub log_of : ℕ → ℕ
log_of n = cond (eqb n 4) 2 (cond (eqb n 8) 3 (cond (eqb n 16) 4 5))

-- "s is the sum of logarithms; 0 for s up to 8, else floor((s-7)/2)"
unfoldable pub scale_of : ℕ → ℕ
scale_of s = cond (leb s 8) 0 ((s - 7) / 2)

-- what `dc_tx_scale` gives back
unfoldable pub dc_tx_scale : ℕ → ℕ → Answer
dc_tx_scale w h = lowest ((not (is_side w && is_side h), 1) ∷ []) (scale_of (log_of w + log_of h))
