-- What the tests of a pass give back. No public contract mentions it.
use Rattle.std.specs.Prelude.{◌*◌, Result, Ok, Err}
use Rattle.answer.specs.declared.Refusal.{Refusal}
use Rattle.answer.specs.Answer.{Answer, answers, refuses, number_of}
use Rattle.passes.specs.declared.ValidPass.{ValidPass}

abbrev pub admitted : Result ValidPass Refusal → Answer
admitted (Ok p) = answers (p.size.w * p.size.h)
admitted (Err why) = refuses (number_of why)
