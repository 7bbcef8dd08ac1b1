-- `quant::scan::find_places` meets its contract. Assumes nothing.
use mathlib.Core.Path.{◌≡◌, refl, ap, ◌∙◌}
use Prim.Native.Nat.{ℕ}
use native.Mathlib.Omega.{arith}
use lib.Dec.{ltb}
use lib.ListN.{length}
use Rattle.laws.specs.Table.{every}
use Rattle.laws.proofs.Store.{stored_none, stored_turn}
use Rattle.laws.proofs.Filled.{filled}
use Rattle.laws.proofs.Every.{every_turn}
use Rattle.quant.proofs.scan.find_places.Invariants.{below}
use Rattle.quant.proofs.scan.find_places.Goals as goal

pub loop-i-init : goal.loop-i-init
loop-i-init c = (stored_none, refl)

pub loop-i-preserved : goal.loop-i-preserved
loop-i-preserved c =
    let a = c.args in (
      stored_turn c.loop-i.invariant.0 refl c.place-place.ensures,
      every_turn (below a.reading.by_width a.reading.width a.scan.now a.limit) c.loop-i.i (ap (λ (p : ℕ). ltb p a.limit) (c.from.ensures ∙ c.place-place.ensures)) c.loop-i.invariant.1,
    )

pub returns : goal.returns
returns c =
    let a = c.args in
    record {
      value = c.loop-i.invariant.1 ∙ ap (λ (k : ℕ). every k (below a.reading.by_width a.reading.width a.scan.now a.limit)) (let e : c.loop-i.i ≡ length a.scan.now = omega arith in e);
      places_after = filled (length a.scan.now) 0 c.loop-i.invariant.0 (omega arith) c.requires;
    }
