-- What the tests of a batch of count lines give back. No public contract mentions it.
use Rattle.std.specs.Prelude.{ℕ, Result, Ok, Err}
use Rattle.answer.specs.declared.Refusal.{Refusal}
use Rattle.answer.specs.Answer.{Answer, answers, refuses, number_of}
use Rattle.block.specs.declared.shape.Shape.{Shape}

abbrev pub admitted : ℕ → Result Shape Refusal → Answer
admitted count (Ok s) = answers count
admitted count (Err why) = refuses (number_of why)
