-- `reader::read::lay_eight` meets its contract. Assumes nothing.
use Rattle.std.proofs.Common.{ℕ, ◌+◌, ◌*◌, pos, replicate, refl, sym, ap, ◌∙◌, arith}
use native.Mathlib.Nat.{add-zero}
use mir.Facts.{to_z-of_z}
use mir.Syntax.{w32}
use Rattle.laws.proofs.Store.{stored_none, stored_turn}
use Rattle.format.specs.Format.{count_in, list_in}
use Rattle.reader.proofs.Places.{map_room, list_room, count_next, level_at_lem, count_same, eight_zeros}
use Rattle.laws.proofs.Filled.{filled_tab}
use Rattle.reader.proofs.read.lay_eight.Goals as goal

pub bounds-s-q : goal.bounds-s-q
bounds-s-q c = let w = c.args.whole.now in map_room w.bytes.now c.args.q c.requires.eight.0 c.requires.eight.1 w.whole

pub returns-then-bits-eq0-clause-value : goal.returns-then-bits-eq0-clause-value
returns-then-bits-eq0-clause-value c =
    let w = c.args.whole.now in
    let p = c.requires.eight in
    c.requires.listed
    ∙ ap (λ (n : ℕ). list_in w.bytes.now + 4 * n) (sym (count_same w.bytes.now c.args.q p.0 p.1 w.whole c.if-bits-eq0.true))

pub returns-then-bits-eq0-clause-levels_after : goal.returns-then-bits-eq0-clause-levels_after
returns-then-bits-eq0-clause-levels_after c =
    let w = c.args.whole.now in
    let p = c.requires.eight in
    c.fill.ensures.after (λ y e. e) ∙ ap (λ (n : ℕ). replicate n (pos 0)) p.2 ∙ eight_zeros w.bytes.now c.args.q p.0 p.1 w.whole c.if-bits-eq0.true

pub loop-i-init : goal.loop-i-init
loop-i-init c =
    let w = c.args.whole.now in
    record {
      laid = stored_none;
      next = c.requires.listed ∙ ap (λ (k : ℕ). list_in w.bytes.now + 4 * count_in w.bytes.now k) (sym (add-zero c.args.q));
    }

pub level_if-requires : goal.level_if-requires
level_if-requires c =
    let w = c.args.whole.now in
    let p = c.requires.eight in (
      omega arith,
      omega (arith, map_room w.bytes.now c.args.q p.0 p.1 w.whole),
      omega (arith, c.loop-i.invariant.next, list_room w.bytes.now c.args.q p.0 p.1 w.whole c.loop-i.i c.loop-i-test.true),
    )

pub overflow_add-from : goal.overflow_add-from
overflow_add-from c =
    let w = c.args.whole.now in
    let p = c.requires.eight in
    omega (arith, c.loop-i.invariant.next, list_room w.bytes.now c.args.q p.0 p.1 w.whole c.loop-i.i c.loop-i-test.true)

pub loop-i-preserved : goal.loop-i-preserved
loop-i-preserved c =
    let l = c.loop-i in
    let w = c.args.whole.now in
    let p = c.requires.eight in
    record {
      laid = stored_turn l.invariant.laid refl
          (to_z-of_z {w = w32} (record { sfits = c.level_if.type_inv }) ∙ c.level_if.ensures
          ∙ level_at_lem w.bytes.now c.args.q p.0 p.1 w.whole l.i l.from c.loop-i-test.true l.invariant.next);
      next = omega (arith, l.invariant.next, count_next w.bytes.now c.args.q p.0 p.1 w.whole l.i c.loop-i-test.true);
    }

pub returns-clause-levels_after : goal.returns-clause-levels_after
returns-clause-levels_after c = filled_tab 8 (pos 0) c.loop-i.invariant.laid (omega arith) c.requires.eight.2
