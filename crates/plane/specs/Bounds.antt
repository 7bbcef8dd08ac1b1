-- The bounds of tiles, in lists by number, and the test of all pairs on them. No public contract mentions them.
use Rattle.std.specs.Prelude.{◌≡◌, Bool, true, cond, not, ◌&&◌, ℕ, suc, ◌+◌, ◌≤◌, ltb, get_or}
use Rattle.laws.specs.Table.{every}
use Rattle.plane.specs.Plane.{is_open}
use Rattle.plane.specs.declared.AllBounds.{AllBounds}
use Rattle.plane.specs.declared.Bounds.{Bounds}
use Rattle.plane.specs.declared.Tile.{Tile}

-- a tile's first column and row, and those past its last; all 0 where there is no tile
abbrev pub bounds_of : Tile → Bounds
bounds_of t =
    record {
      left = cond (is_open t) t.x 0;
      right = cond (is_open t) (t.x + t.ticket.w) 0;
      top = cond (is_open t) t.y 0;
      bottom = cond (is_open t) (t.y + t.ticket.h) 0;
    }

abbrev pub bounds_in : AllBounds → ℕ → Bounds
bounds_in b i = record { left = get_or b.lefts i 0; right = get_or b.rights i 0; top = get_or b.tops i 0; bottom = get_or b.bottoms i 0 }

-- two have a place in common
abbrev pub meet : Bounds → Bounds → Bool
meet a b = (ltb a.left b.right && ltb b.left a.right) && (ltb a.top b.bottom && ltb b.top a.bottom)

-- no tile meets the one whose number is k more
unfoldable pub clear_at : ℕ → (ℕ → Bounds) → Bool
clear_at k b = every 16 (λ i. not (meet (b i) (b (i + k))))

-- no two meet: a tile is at most 15 numbers from another
unfoldable pub clear_all : (ℕ → Bounds) → Bool
clear_all b = every 15 (λ k. clear_at (suc k) b)

-- an open tile lies in the largest plane, so that its bounds are numbers of 16 bits
abbrev pub InLargest : Tile → Type 0
InLargest t = is_open t ≡ true → (t.x + t.ticket.w ≤ 256) × (t.y + t.ticket.h ≤ 256)
