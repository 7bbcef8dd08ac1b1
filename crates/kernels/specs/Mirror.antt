-- The mirror rule of the DCT kernels ("A pass"), and the symmetry of their odd squares.
use Rattle.std.specs.Prelude.{◌≡◌, true, cond, ℕ, ◌+◌, ◌-◌, ◌*◌, ◌%◌, ◌^◌, ◌<◌, eqb, ℤ, neg_ℤ}
use Rattle.sizes.specs.Size.{is_side}
use Rattle.kernels.specs.Dct.{dct}

-- x, "negated when k is odd"
abbrev pub negated_if_odd : ℕ → ℤ → ℤ
negated_if_odd k x = cond (eqb (k % 2) 1) (neg_ℤ x) x

-- at every side n: "entry (k, 31-c) equals entry (k, c), negated when k is odd", with n - 1 for 31. "It holds at all 1,024 numbers of the
-- DCT32 table", and so at the smaller sides
abbrev pub MirrorRule : Type 0
MirrorRule = (n k c : ℕ) → is_side n ≡ true → k < n → c < n → dct n k (n - 1 - c) ≡ negated_if_odd k (dct n k c)

-- the r-th odd frequency of side 2h at sample k, of the first h samples: these numbers make a square
abbrev pub odd_half : ℕ → ℕ → ℕ → ℤ
odd_half h r k = dct (2 * h) (2 * r + 1) k

-- and it is symmetric
unfoldable pub Symmetric : ℕ → Type 0
Symmetric h = (r k : ℕ) → r < h → k < h → odd_half h r k ≡ odd_half h k r

-- at every h that a line is folded to: 1, 2, 4, 8 and 16
abbrev pub OddSymmetry : Type 0
OddSymmetry = (d : ℕ) → d < 5 → Symmetric (2 ^ d)
