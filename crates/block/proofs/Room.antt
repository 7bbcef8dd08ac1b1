-- What `lanes` asks of a block's lines, and what a block's buffers have room for. Assumes nothing.
use mathlib.Core.Path.{◌≡◌}
use mathlib.Core.Bool.{true}
use Prim.Native.Nat.{ℕ, ◌+◌, ◌*◌, ◌≤◌}
use native.Mathlib.Nat.{mul_comm, mul-le-mul_right, add-mul}
use native.Mathlib.Omega.{arith}
use Rattle.sizes.specs.Size.{is_side}
use Rattle.sizes.proofs.Side.{side_bounds, size_small}
use Rattle.lines.specs.Room.{PassRoom}
use Rattle.block.specs.Room.{BlockRoom}

-- lines of a whole block, whose buffers have room for all of its count lines of n numbers
pub lines_asked : {w h end count n ls ld : ℕ} → end ≤ count → count * n ≡ w * h → w * h ≤ ls → w * h ≤ ld → BlockRoom w h end count n ls ld
lines_asked {n = n} ends size source target =
    let m = mul-le-mul_right n ends in
    record { ends = ends; source_long = omega arith; target_long = omega arith }

module _ {w h ls ld : ℕ} (start count : ℕ) (wide : is_side w ≡ true) (high : is_side h ≡ true) where
  pub columns_room : BlockRoom w h (start + count) w h ls ld → PassRoom h w start count ls ld
  columns_room r =
      let m = mul_comm h w in
      let a = r.source_long in
      let b = side_bounds w wide in
      record { small = b.high; ends = r.ends; src = omega arith; dst = r.target_long }

  pub rows_room : BlockRoom w h (start + count) h w ls ld → PassRoom w h start count ls ld
  rows_room r =
      record { small = (side_bounds h high).high; ends = r.ends; src = r.source_long; dst = r.target_long }

  -- the row lines lie within the output
  pub rows_end : BlockRoom w h (start + count) h w ls ld → (start * w + count * w ≤ ld) × (start * w + count * w ≤ 1024)
  rows_end r =
      let m : (start + count) * w ≤ h * w = mul-le-mul_right w r.ends in
      let s = size_small w h wide high in let d = r.target_long in
      (omega (arith, add-mul start count w), omega (arith, add-mul start count w, mul_comm h w))
