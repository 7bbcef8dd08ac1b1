-- Whether numbers lie from a limit below zero to the limit above.
use Rattle.std.specs.Prelude.{Bool, ◌&&◌, List, ℕ, ℤ, pos, neg_ℤ, get_or}
use Rattle.std.specs.Int.Signed.{le_z}
use Rattle.laws.specs.Table.{every}

-- from -limit to limit
unfoldable pub is_within : ℕ → ℤ → Bool
is_within limit z = le_z (neg_ℤ (pos limit)) z && le_z z (pos limit)

-- each of the first n numbers
unfoldable pub all_within : ℕ → ℕ → List ℤ → Bool
all_within limit n l = every n (λ k. is_within limit (get_or l k (pos 0)))
