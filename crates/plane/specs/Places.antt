-- A tile's places in a plane, "row by row". The plane is width numbers wide.
use Rattle.std.specs.Prelude.{Bool, cond, ◌&&◌, List, ℕ, ◌+◌, ◌-◌, ◌*◌, ◌/◌, ◌%◌, ltb, ℤ, pos, length, get_or}
use Rattle.laws.specs.Store.{tab}
use Rattle.tickets.specs.Mark.{is_among}

-- where a tile lies, and its sides
pub record Area : Type 0 where
  pub x : ℕ
  pub y : ℕ
  pub w : ℕ
  pub h : ℕ

-- two areas have a place in common
unfoldable pub overlap : Area → Area → Bool
overlap s t = (ltb t.x (s.x + s.w) && ltb s.x (t.x + t.w)) && (ltb t.y (s.y + s.h) && ltb s.y (t.y + t.h))

-- the plane's place of number p of a tile
abbrev pub place_of : ℕ → Area → ℕ → ℕ
place_of width a p = (a.y + p / a.w) * width + (a.x + p % a.w)

-- a tile's w × h numbers in a plane
unfoldable pub tile_of : ℕ → Area → List ℤ → List ℤ
tile_of width a plane = tab (a.w * a.h) (λ p. get_or plane (place_of width a p) (pos 0))

-- place q of the plane is one of the tile's
unfoldable pub is_in : ℕ → Area → ℕ → Bool
is_in width a q = is_among a.x a.w (q % width) && is_among a.y a.h (q / width)

-- a plane with a tile's numbers put in their places
unfoldable pub put_tile : ℕ → Area → List ℤ → List ℤ → List ℤ
put_tile width a tile plane =
    tab (length plane) (λ q. cond (is_in width a q) (get_or tile ((q / width - a.y) * a.w + (q % width - a.x)) (pos 0)) (get_or plane q (pos 0)))

-- the plane's place of number f of a line that is i rows below place x, y. No public contract mentions it, nor the next
abbrev pub plane_place : ℕ → ℕ → ℕ → ℕ → ℕ → ℕ
plane_place width x y i f = (y + i) * width + x + f

-- number f of line i of a buffer whose lines have w numbers
abbrev pub line_number : List ℤ → ℕ → ℕ → ℕ → ℤ
line_number buffer w i f = get_or buffer (i * w + f) (pos 0)
