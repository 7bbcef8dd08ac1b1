-- `lines::each_line` meets its contract. Assumes nothing.
use native.Mathlib.Omega.{arith}
use Rattle.lines.proofs.Loop.{none_yet, one_more, next_line, all_lines}
use Rattle.lines.proofs.transform.each_line.Goals as goal

pub loop-i-init : goal.loop-i-init
loop-i-init g c = none_yet

pub line-requires : goal.line-requires
line-requires g c = next_line c.requires.side.0 c.requires.side.1 c.requires.room c.loop-i-test.true c.loop-i.invariant

pub loop-i-preserved : goal.loop-i-preserved
loop-i-preserved g c = one_more c.loop-i.invariant c.line.ensures

pub returns : goal.returns
returns g c = all_lines c.requires.side.0 c.requires.room (omega arith) c.loop-i.invariant
