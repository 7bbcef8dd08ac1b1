-- The report of a file as the C interface gives it: a number, and two numbers written.
use Rattle.std.specs.Prelude.{ℕ, ℤ, pos, neg_ℤ}
use Rattle.totals.specs.Totals.{Reported, totals, refused}

-- "answers the blocks", minus the number where the call is refused
abbrev pub signed_report : Reported → ℤ
signed_report (totals b l m) = pos b
signed_report (refused k) = neg_ℤ (pos k)

-- the two numbers lent, left alone where the call is refused
abbrev pub levels_given : Reported → ℕ → ℕ
levels_given (totals b l m) old = l
levels_given (refused k) old = old

abbrev pub sum_given : Reported → ℕ → ℕ
sum_given (totals b l m) old = m
sum_given (refused k) old = old
