-- `lines::by_fours` meets its contract. Assumes nothing.
use mathlib.Core.Path.{◌≡◌, ap, ◌∙◌, subst}
use Prim.Native.Nat.{ℕ, ◌+◌, ◌-◌, ◌*◌, ◌≤◌}
use borrow.Rule.Slice.PartMut.{put_mid}
use native.Mathlib.Omega.{arith}
use mathlib.Core.List.{List}
use lib.IntN.{ℤ, pos}
use lib.ListN.{length, length-replicate}
use Rattle.laws.specs.Store.{stores}
use Rattle.lines.specs.Line.{from, number}
use Rattle.lines.specs.Pass.{pass_at}
use Rattle.lines.specs.Room.{on_line}
use Rattle.laws.proofs.Pasted.{copied}
use Rattle.lines.proofs.Loop.{Written, none_yet, one_more, same_long, all_lines, some_lines, lines_end, one_staged, staged_more}
use Rattle.lines.proofs.transform.by_fours.Goals as goal

pub loop-four-init : goal.loop-four-init
loop-four-init g c = (none_yet, length-replicate g.row.L (pos 0))

pub loop-q-init : goal.loop-q-init
loop-q-init g c = none_yet

-- a line as it is stored, at a side that is n
stored : (kind shift lines j to : ℕ) (src d : List ℤ) {m n : ℕ} {d' : List ℤ} → m ≡ n → d' ≡ stores d m (on_line m to) (pass_at kind m shift lines src j)
    → d' ≡ stores d n (on_line n to) (pass_at kind n shift lines src j)
stored kind shift lines j to src d {d' = d'} e u =
    subst (λ (m : ℕ). d' ≡ stores d m (on_line m to) (pass_at kind m shift lines src j)) e u

pub loop-q-preserved : goal.loop-q-preserved
loop-q-preserved g c =
    let a = c.args in
    let s = a.source.now in
    one_staged (g.T.Transform.kind a.transform.now) g.row.N (g.T.Transform.shift a.transform.now) s.lines s.numbers.now (a.start + 4 * c.loop-four.four) c.loop-q.q c.loop-q.invariant
    (stored _ _ _ _ _ _ _ c.requires.side.0 c.line.ensures)

pub slice_bounds-copy_from_slice-end : goal.slice_bounds-copy_from_slice-end
slice_bounds-copy_from_slice-end g c =
    let l = c.loop-four in
    let ends = lines_end (some_lines (4 * l.four) 4 c.requires.room (omega arith)) in
    omega (arith, ends, c.requires.side.3, same_long l.invariant.0)

pub loop-four-preserved : goal.loop-four-preserved
loop-four-preserved g c =
    let a = c.args in
    let s = a.source.now in
    let l = c.loop-four in
    let n = g.row.N in
    let j = a.start + 4 * l.four in
    let q = c.loop-q.invariant in
    let long : length c.loop-q.o ≡ g.row.L = same_long q ∙ l.invariant.1 in
    let room = some_lines (4 * l.four) 4 c.requires.room (omega arith) in
    let whole : 4 * n ≤ length l.o = omega (arith, l.invariant.1, c.requires.side.3) in (
      subst
          (λ (i : ℕ).
          Written (g.T.Transform.kind a.transform.now) n (g.T.Transform.shift a.transform.now) s.lines s.numbers.now a.start a.start i
          (put_mid (j * n) (j * n + g.row.L - j * n) l.dst c.copy_from_slice.new.self) a.dst.now) (omega arith)
          (staged_more 4 c.requires.side.1 whole c.requires.room (omega arith) l.invariant.0 (omega arith) q
          (copied l.dst (j * n) g.row.L (pos 0) long c.copy_from_slice.ensures.after (omega (arith, lines_end room, same_long l.invariant.0, c.requires.side.3))
          ∙ ap (λ (m : ℕ). stores l.dst m (from (j * n)) (number c.loop-q.o)) c.requires.side.3)),
      long,
    )

pub loop-i-preserved : goal.loop-i-preserved
loop-i-preserved g c = one_more c.loop-i.invariant (stored _ _ _ _ _ _ _ c.requires.side.0 c.line-in-loop-i.ensures)

pub returns : goal.returns
returns g c = all_lines c.requires.side.1 c.requires.room (omega arith) c.loop-i.invariant
