-- What the tests of a block give back. No public contract mentions it.
use Rattle.std.specs.Prelude.{◌*◌, Result, Ok, Err}
use Rattle.answer.specs.declared.Refusal.{Refusal}
use Rattle.answer.specs.Answer.{Answer, answers, refuses, number_of}
use Rattle.block.specs.declared.shape.Shape.{Shape}

abbrev pub admitted : Result Shape Refusal → Answer
admitted (Ok s) = answers (s.size.w * s.size.h)
admitted (Err why) = refuses (number_of why)
