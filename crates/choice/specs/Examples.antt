-- Choices of a few levels, computed.
use Rattle.std.specs.Prelude.{List, [], ◌∷◌, ◌≡◌, ℤ, pos, negsuc}
use Rattle.answer.specs.Answer.{answers, refuses}
use Rattle.choice.specs.Choice.{choice_answer}

abbrev pub pair : ℤ → ℤ → List ℤ
pair a b = a ∷ b ∷ []

-- 3 and -4 against -2 and 1, and the other way round; a tie, 3 and -4 against 0 and 7; and 5 and -5 against 1 and 1, where a sum with signs would
-- have the first
abbrev pub Lighter : Type 0
Lighter =
    choice_answer (pair (pos 3) (negsuc 3)) (pair (negsuc 1) (pos 1)) 2 ∷ choice_answer (pair (negsuc 1) (pos 1)) (pair (pos 3) (negsuc 3)) 2
    ∷ choice_answer (pair (pos 3) (negsuc 3)) (pair (pos 0) (pos 7)) 2 ∷ choice_answer (pair (pos 5) (negsuc 4)) (pair (pos 1) (pos 1)) 2 ∷ []
    ≡ answers 1 ∷ answers 0 ∷ answers 0 ∷ answers 1 ∷ []

-- what is behind the count is not looked at: 1 and 9 against 2 and 0, and 2^30 + 1 behind it
abbrev pub Counted : Type 0
Counted =
    choice_answer (pair (pos 1) (pos 9)) (pair (pos 2) (pos 0)) 1 ∷ choice_answer (pair (pos 1) (pos 9)) (pair (pos 2) (pos 0)) 2
    ∷ choice_answer (pair (pos 3) (pos 1073741825)) (pair (pos 2) (negsuc 1073741824)) 1 ∷ []
    ≡ answers 0 ∷ answers 1 ∷ answers 1 ∷ []

-- -2^30 and 2^30; -2^30 - 1 and 2^30 + 1, in either buffer; the same in a buffer that is short; and a count above 1,024, which comes first
abbrev pub Refused : Type 0
Refused =
    choice_answer (pair (pos 0) (negsuc 1073741823)) (pair (pos 1073741824) (pos 0)) 2
    ∷ choice_answer (pair (pos 0) (negsuc 1073741824)) (pair (pos 0) (pos 0)) 2 ∷ choice_answer (pair (pos 0) (pos 0)) (pair (pos 1073741825) (pos 0)) 2
    ∷ choice_answer (pair (pos 0) (negsuc 1073741824)) (pos 0 ∷ []) 2 ∷ choice_answer [] [] 1025 ∷ []
    ≡ answers 0 ∷ refuses 11 ∷ refuses 11 ∷ refuses 3 ∷ refuses 8 ∷ []
