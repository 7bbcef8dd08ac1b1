-- After r turns r odd frequencies are stored.
use Rattle.laws.proofs.Store.{Lined}
use Rattle.passes.specs.Fold.{odd_number, odd_row}
use Rattle.passes.proofs.fold.odds.Given as goal

abbrev pub invariant-loop-r : goal.invariant-loop-r
invariant-loop-r g l =
    Lined l.o l.initial.o l.r l.diffs.lines (odd_row l.diffs.lines l.step)
    (odd_number l.h l.setup.rounding.shift.bits l.diffs.lines l.setup.numbers.now l.diffs.numbers.now)
