-- Marks: "one mark per column line and row line". The other definitions ask whether line j is marked, and know nothing of bits.
use Rattle.std.specs.Prelude.{Bool, cond, not, ◌&&◌, ◌||◌, ℕ, zero, suc, ◌+◌, ◌-◌, ◌*◌, ◌/◌, ◌%◌, eqb, leb, ltb}
use Rattle.laws.specs.Table.{every}

-- line j is marked: bit j of the mask, line 0 the lowest
unfoldable pub marked : ℕ → ℕ → Bool
marked mask zero = eqb (mask % 2) 1
marked mask (suc j) = marked (mask / 2) j

-- the mask of the lines below n that p names
unfoldable pub mask_of : ℕ → (ℕ → Bool) → ℕ
mask_of zero p = 0
mask_of (suc n) p = cond (p 0) 1 0 + 2 * mask_of n (λ j. p (suc j))

-- a line from n on is marked, of the 32 that a mask has room for
unfoldable pub any_from : ℕ → ℕ → Bool
any_from n mask = not (every (32 - n) (λ j. not (marked mask (n + j))))

-- each of the first n lines is marked
unfoldable pub all_marked : ℕ → ℕ → Bool
all_marked n mask = every n (marked mask)

-- line j is one of n lines from start on
unfoldable pub is_among : ℕ → ℕ → ℕ → Bool
is_among start n j = leb start j && ltb j (start + n)

-- the mask with n lines from start on marked, and every mark that it has
unfoldable pub with_lines : ℕ → ℕ → ℕ → ℕ
with_lines mask start n = mask_of 32 (λ j. marked mask j || is_among start n j)
