-- Each call has half as many numbers of a line.
use Rattle.passes.proofs.fold.+dct_fold.Given as goal

abbrev pub decreases-dct_fold : goal.decreases-dct_fold
decreases-dct_fold l = l.m
