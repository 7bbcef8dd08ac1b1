-- A place of a table, turned, is a place of the turned table, and small. Assumes nothing.
use Rattle.std.proofs.Common.{◌≡◌, ℕ, ◌+◌, ◌*◌, ◌/◌, ◌%◌, ◌<◌, ◌≤◌, true, mod-lt, mul_comm, div-lt_iff_lt-mul, arith}
use lib.Arith.{digits_lt}
use Rattle.sizes.specs.Size.{is_side}
use Rattle.sizes.proofs.Side.{side_bounds, size_small}

pub side_some : (w : ℕ) → is_side w ≡ true → 1 ≤ w
side_some w s = let a = side_bounds w s in omega arith

pub turned_lt : (i w h : ℕ) → (is_side w ≡ true) × (is_side h ≡ true) → i < w * h → (i % w * h + i / w < w * h) × (w * h ≤ 1024)
turned_lt i w h s b = let p = side_some w s.0 in (digits_lt (mod-lt i p) ((div-lt_iff_lt-mul p).1 (rw mul_comm b)), size_small w h s.0 s.1)
