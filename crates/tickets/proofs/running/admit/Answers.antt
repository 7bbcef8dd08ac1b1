-- `tickets::running::admit` meets its contract. Assumes nothing.
use Prim.Native.Nat.{◌≤◌}
use Rattle.sizes.proofs.Side.{side_bounds}
use Rattle.tickets.proofs.running.admit.Goals as goal

pub out_of_order-requires : goal.out_of_order-requires
out_of_order-requires c =
    let z = c.in_ok-size.size in
    let few : (z.w ≤ 32) × (z.h ≤ 32) = ((side_bounds z.w z.sides.0).high, (side_bounds z.h z.sides.1).high) in
    rw (c.in_ok-size.ensures.0, c.in_ok-size.ensures.1) at few
