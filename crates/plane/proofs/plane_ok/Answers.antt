-- `plane::plane_ok` meets its contract. Assumes nothing.
use mathlib.Core.Path.{◌≡◌, sym, ◌∙◌}
use mathlib.Core.Bool.{and-false}
use lib.ListN.{length}
use borrow.Author.Rules.{rules}
use Rattle.laws.proofs.Every.{every_each}
use Rattle.plane.specs.Plane.{tile_at, sides_ok, tile_ok, plane_ok}
use Rattle.plane.proofs.Clear.{clear_is, in_largest}
use Rattle.plane.proofs.plane_ok.Goals as goal

pub returns-then-not-sides_ok : goal.returns-then-not-sides_ok
unfolding plane_ok
returns-then-not-sides_ok c = rw (sym c.sides_ok.ensures ∙ c.if-not-sides_ok.true)

pub returns-then-not-tiles_ok : goal.returns-then-not-tiles_ok
unfolding plane_ok
returns-then-not-tiles_ok c = let p = c.args.p.now in rw (sym c.tiles_ok.ensures ∙ c.if-not-tiles_ok.true, and-false (sides_ok p.w p.h))

pub new-requires : goal.new-requires
new-requires c i l =
    let p = c.args.p.now in
    in_largest _ _ _ (sym c.sides_ok.ensures ∙ c.if-not-sides_ok.false)
    (every_each 16 (λ i. tile_ok p.w p.h (tile_at p i)) (sym c.tiles_ok.ensures ∙ c.if-not-tiles_ok.false) i l)

pub returns : goal.returns
unfolding plane_ok
returns c =
    let many : length c.args.p.now.tiles ≡ 16 = search rules in
    rw (sym c.sides_ok.ensures ∙ c.if-not-sides_ok.false, sym c.tiles_ok.ensures ∙ c.if-not-tiles_ok.false)
    (c.is_clear.ensures ∙ clear_is c.args.p.now many _ c.new.ensures)
