-- The side byte, both ways, and the sizes that it can tell. Assumes nothing.
use mathlib.Core.Bool.{true}
use mathlib.Core.List.{List}
use mathlib.Core.Path.{◌≡◌, refl}
use Prim.Native.Nat.{ℕ, ◌*◌, ◌/◌, ◌%◌, ◌^◌, ◌≤◌, ◌<◌}
use native.Mathlib.Nat.{mod-lt}
use borrow.Author.Tests.{eqb-true, leb-true, ltb-true}
use lib.Dec.{eqb, leb, ltb, lit<}
use lib.ListN.{get_or}
use Rattle.laws.proofs.Every.{every_each}
use Rattle.laws.specs.Table.{every}
use Rattle.sizes.proofs.Side.{each_size}
use Rattle.sizes.specs.Size.{is_side, log_of}
use Rattle.format.specs.Pieces.{side_byte, width_of, height_of, SideBytes}
use Rattle.format.specs.Format.{width_in, height_in, places_in}

-- the sides that a side byte tells
four_sides : every 4 (λ i. is_side (4 * 2 ^ i)) ≡ true
unfolding is_side
four_sides = refl

pub wide_side : (x : ℕ) → is_side (width_of x) ≡ true
wide_side x = every_each 4 (λ i. is_side (4 * 2 ^ i)) four_sides (x % 4) (mod-lt x (lit< tt))

pub high_side : (x : ℕ) → is_side (height_of x) ≡ true
high_side x = every_each 4 (λ i. is_side (4 * 2 ^ i)) four_sides (x / 4 % 4) (mod-lt (x / 4) (lit< tt))

-- from sides to the byte and back
pub wide_back : (w h : ℕ) → is_side w ≡ true → is_side h ≡ true → width_of (side_byte w h) ≡ w
unfolding side_byte log_of
wide_back w h sw sh = eqb-true _ _ (each_size (λ w h. eqb (width_of (side_byte w h)) w) refl w h sw sh)

pub high_back : (w h : ℕ) → is_side w ≡ true → is_side h ≡ true → height_of (side_byte w h) ≡ h
unfolding side_byte log_of
high_back w h sw sh = eqb-true _ _ (each_size (λ w h. eqb (height_of (side_byte w h)) h) refl w h sw sh)

pub byte_small : (w h : ℕ) → is_side w ≡ true → is_side h ≡ true → side_byte w h < 16
unfolding side_byte log_of
byte_small w h sw sh = ltb-true _ _ (each_size (λ w h. ltb (side_byte w h) 16) refl w h sw sh)

-- from a byte with upper bits zero to sides and back
pub byte_back : (x : ℕ) → x < 16 → side_byte (width_of x) (height_of x) ≡ x
unfolding side_byte log_of
byte_back x b = eqb-true _ _ (every_each 16 (λ x. eqb (side_byte (width_of x) (height_of x)) x) refl x b)

-- a block's places are 16 to 1,024, and fill whole bytes of the map
pub record Sized (n : ℕ) : Type 0 where
  pub low : 16 ≤ n
  pub most : n ≤ 1024
  pub whole : n % 8 ≡ 0

pub sized : (w h : ℕ) → is_side w ≡ true → is_side h ≡ true → Sized (w * h)
sized w h sw sh =
    record {
      low = leb-true _ _ (each_size (λ w h. leb 16 (w * h)) refl w h sw sh);
      most = leb-true _ _ (each_size (λ w h. leb (w * h) 1024) refl w h sw sh);
      whole = eqb-true _ _ (each_size (λ w h. eqb (w * h % 8) 0) refl w h sw sh);
    }

pub sized_in : (s : List ℕ) → Sized (places_in s)
unfolding width_in height_in
sized_in s = sized (width_of (get_or s 4 0)) (height_of (get_or s 4 0)) (wide_side (get_or s 4 0)) (high_side (get_or s 4 0))

pub side_bytes : SideBytes
side_bytes = record { read = λ w h sw sh. (wide_back w h sw sh, high_back w h sw sh); made = byte_back }
