-- `plane::number_for` meets its contract. Assumes nothing.
use mathlib.Core.Path.{sym, ap, ◌∙◌}
use native.Mathlib.Omega.{arith}
use Prim.Native.Nat.{ℕ, ◌<◌}
use borrow.Author.Tests.{lt-ltb}
use Rattle.plane.specs.Plane.{number_or_16, with_tile, plane_ok, first_free, has_place}
use Rattle.plane.proofs.number_for.Goals as goal

pub with_tile-next-requires : goal.with_tile-next-requires
with_tile-next-requires c = rw c.in_ok-free.ensures.ok_part at c.first_free.ensures.small

pub returns : goal.returns
unfolding has_place
returns c =
    let a = c.args in
    let n = ap number_or_16 (sym c.in_ok-free.ensures.ok_part) ∙ c.first_free.ensures.value in
    let small : c.in_ok-free.free < 16 = rw c.in_ok-free.ensures.ok_part at c.first_free.ensures.small in (
      small,
      n,
      rw (lt-ltb (first_free a.p.now) 16 (omega (arith, n, small)))
          (sym (c.plane_ok.ensures ∙ ap plane_ok (c.with_tile-next.ensures ∙ ap (λ (n : ℕ). with_tile a.p.now n a.t) n)) ∙ c.if-not-plane_ok.false),
    )
