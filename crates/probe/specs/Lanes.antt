-- The lane pass as a call: the tests of a pass, and then that its lines end within the line count. No public contract mentions it.
use Rattle.std.specs.Prelude.{cond, List, ℕ, ◌+◌, ltb, ℤ, nat_abs, length}
use Rattle.answer.specs.Answer.{Answer, answers, refuses, after}
use Rattle.passes.specs.Call.{pass_answer}
use Rattle.lines.specs.Pass.{pass_lines}

-- a refusal as it is; past an answer, the next test
abbrev pub and_then : Answer → Answer → Answer
and_then (answers n) next = next
and_then (refuses k) next = refuses k

unfoldable pub lanes_answer : ℕ → ℕ → ℤ → ℕ → ℕ → ℕ → ℕ → ℕ → Answer
lanes_answer side kind shift lines start count ls ld =
    and_then (pass_answer side kind shift lines ls ld) (cond (ltb lines (start + count)) (refuses 5) (answers count))

unfoldable pub lanes_after : ℕ → ℕ → ℤ → ℕ → ℕ → ℕ → List ℤ → List ℤ → List ℤ
lanes_after side kind shift lines start count src dst =
    after (lanes_answer side kind shift lines start count (length src) (length dst))
    (pass_lines kind side (nat_abs shift) lines src start count dst)
    dst
