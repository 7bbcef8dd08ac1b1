-- Choices of a few levels, computed. Assumes nothing.
use mathlib.Core.Path.{refl}
use Rattle.laws.specs.Sum.{sum_ℕ}
use Rattle.answer.specs.Answer.{lowest}
use Rattle.choice.specs.Choice.{weight, choice_answer}
use Rattle.choice.specs.Examples.{Lighter, Counted, Refused}
use Rattle.format.specs.Pieces.{are_near}

pub lighter : Lighter
unfolding choice_answer lowest are_near weight sum_ℕ
lighter = refl

pub counted : Counted
unfolding choice_answer lowest are_near weight sum_ℕ
counted = refl

pub refused : Refused
unfolding choice_answer lowest are_near weight sum_ℕ
refused = refl
