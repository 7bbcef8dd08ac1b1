-- `quant::scan::fill` meets its contract. Assumes nothing.
use mathlib.Core.Path.{refl, ap, ◌∙◌}
use native.Mathlib.Omega.{arith}
use borrow.Author.Rules.{rules}
use lib.IntN.{pos}
use lib.Ieee.{nan}
use lib.ListN.{length, get_or}
use mir.Syntax.{w32}
use mir.Val.{SFits}
use mir.ValLaws.{to_z-of_z}
use Rattle.laws.proofs.Every.{every_each}
use Rattle.laws.proofs.Store.{stored_none, stored_turn}
use Rattle.laws.proofs.Filled.{filled}
use Rattle.quant.specs.Level.{level_by, magnitude_by}
use Rattle.quant.specs.Settings.{coefficient_ok}
use Rattle.quant.proofs.scan.fill.Goals as goal

pub loop-i-init : goal.loop-i-init
loop-i-init c = (stored_none, stored_none)

pub quantize-written-requires : goal.quantize-written-requires
quantize-written-requires c =
    let l = c.args.named.now in
    let p : SFits w32 (get_or l c.loop-i.i (pos 0)) = search rules in
    ap coefficient_ok (to_z-of_z w32 _ p) ∙ every_each (length l) (λ k. coefficient_ok (get_or l k (pos 0))) c.requires.in_range c.loop-i.i c.loop-i-test.true

pub loop-i-preserved : goal.loop-i-preserved
loop-i-preserved c =
    let s = c.args.scale in
    let p : SFits w32 (get_or c.args.named.now c.loop-i.i (pos 0)) = search rules in
    let same = to_z-of_z w32 _ p in (
      stored_turn c.loop-i.invariant.0 refl (c.quantize-written.ensures.0 ∙ ap (level_by s.inverse s.threshold s.bias) same),
      stored_turn c.loop-i.invariant.1 refl (c.quantize-written.ensures.1 ∙ ap (magnitude_by s.inverse) same),
    )

pub returns : goal.returns
returns c =
    let n = length c.args.named.now in
    record {
      levels_after = filled n nan c.loop-i.invariant.0 (omega arith) c.requires.room.0;
      magnitudes_after = filled n nan c.loop-i.invariant.1 (omega arith) c.requires.room.1;
    }
