-- What KernelColumns, as it is stated, says of one call: a premise that no call meets would leave it saying nothing.
use Rattle.std.specs.Prelude.{◌≡◌, List, [], ◌∷◌, map, ℤ, pos, replicate}
use Rattle.passes.specs.Unshifted.{number, KernelColumns}

-- four lines of four samples, all 0 but for the first of the first line; and a buffer for the pass
abbrev pub one_sample : List ℤ
one_sample = pos 1 ∷ replicate 15 (pos 0)

abbrev pub sevens : List ℤ
sevens = replicate 16 (pos 7)

-- from the statement alone, whatever its proof: the pass writes the first column of the DCT of side 4 as its first line
abbrev pub FirstColumn : Type 0
FirstColumn = KernelColumns → map (λ f. number 0 4 4 0 f one_sample sevens) (0 ∷ 1 ∷ 2 ∷ 3 ∷ []) ≡ map pos (64 ∷ 83 ∷ 64 ∷ 35 ∷ [])
