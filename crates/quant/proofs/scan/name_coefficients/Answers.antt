-- `quant::scan::name_coefficients` meets its contract. Assumes nothing.
use mathlib.Core.Path.{refl, sym, ◌∙◌}
use native.Mathlib.Omega.{arith}
use borrow.Author.Tests.{not-false, not-true}
use Rattle.quant.proofs.Places.{placed}
use Rattle.quant.proofs.scan.name_coefficients.Goals as goal

pub returns-then-not-find_places : goal.returns-then-not-find_places
returns-then-not-find_places c =
    let a = c.args in
    let at = placed a.width a.coefficients.now a.scan.now _ _ _ _ a.named.now _ _ c.requires c.new-reading.ensures c.find_places.ensures.places_after c.find_places.ensures.value
    c.type_inv.scan c.reach-limit.ensures in
    (refl, not-false _ (sym at.tested ∙ c.if-not-find_places.true))

pub gather-requires-clause-by_index : goal.gather-requires-clause-by_index
gather-requires-clause-by_index c =
    let a = c.args in
    let at = placed a.width a.coefficients.now a.scan.now _ _ _ _ a.named.now _ _ c.requires c.new-reading.ensures c.find_places.ensures.places_after c.find_places.ensures.value
    c.type_inv.scan c.reach-limit.ensures in
    λ i b. at.below (sym at.tested ∙ c.if-not-find_places.false) i (omega arith)

pub returns : goal.returns
returns c =
    let a = c.args in
    let at = placed a.width a.coefficients.now a.scan.now _ _ _ _ a.named.now _ _ c.requires c.new-reading.ensures c.find_places.ensures.places_after c.find_places.ensures.value
    c.type_inv.scan c.reach-limit.ensures in
    (not-true _ (sym at.tested ∙ c.if-not-find_places.false), at.gathers a.named.now _ _ (omega arith) c.gather.ensures)
