-- Document 01's entries marked P, "Frames on the light table", and passes at shift 0, as one list over the definitions.
use Rattle.std.specs.Prelude.{Bool, true, false, ◌&&◌, List, [], ◌∷◌, ◌++◌, map, ℕ, ◌*◌, ◌/◌, ◌%◌, ℤ, pos, negsuc, neg_ℤ, Float, take, replicate}
use Rattle.std.specs.Float.{fin, binary32}
use Rattle.std.specs.Float.Ieee.{to_bits}
use Rattle.laws.specs.Store.{tab}
use Rattle.laws.specs.Table.{eq_ℤ}
use Rattle.lines.specs.Pass.{pass_at}
use Rattle.block.specs.Block.{row_at}
use Rattle.wht.specs.Wht.{wht_of}
use Rattle.quant.specs.Step.{step_of}
use Rattle.quant.specs.Place.{Said, refused, dropped, kept, one_answer}

-- ---- what a definition gives, as a list of integers

-- a block, row-major
abbrev block : ℕ → ℕ → ℕ → List ℤ → List ℤ
block w h kind residuals = tab (w * h) (λ p. row_at w h kind kind residuals (p / w) (p % w))

-- a pass over one line
abbrev pass : ℕ → ℕ → ℕ → List ℤ → List ℤ
pass kind n shift line = tab n (λ f. pass_at kind n shift 1 line 0 f)

-- the WHT of a block
abbrev wht : List ℤ → List ℤ
wht residuals = tab 16 (wht_of residuals)

-- a float by its bit pattern, so that -0.0 isn't +0.0
abbrev bits : Float → ℤ
bits x = pos (to_bits binary32 x)

-- a place: 1, level and magnitude where it is kept, 0 and magnitude where it is dropped
abbrev place : Said → List ℤ
place (kept level magnitude) = pos 1 ∷ bits level ∷ bits magnitude ∷ []
place (dropped magnitude) = pos 0 ∷ bits magnitude ∷ []
place (refused k) = neg_ℤ (pos k) ∷ []

-- "step 16, factor 1, threshold 0.5, dead zone 0.375"
abbrev place16 : ℤ → List ℤ
place16 coefficient =
    place
    (one_answer (record { factor = fin false 1 (pos 0); threshold = fin false 1 (negsuc 0); dead_zone = fin false 3 (negsuc 2) }) 16 coefficient)

-- ---- the list

-- n times the same number; and one number with n others behind it
abbrev all : ℕ → ℤ → List ℤ
all n z = replicate n z

abbrev first : ℤ → ℕ → List ℤ
first z n = z ∷ replicate n (pos 0)

-- what a definition gives, and what it is to give. Where document 01 names the first number alone, so does the entry
unfoldable pub examples : List (List ℤ × List ℤ)
examples =
    -- "4×4 DCT, all 1: first 32, others 0. All -1: first -32, others 0."
    (block 4 4 0 (all 16 (pos 1)), first (pos 32) 15)
    ∷ (block 4 4 0 (all 16 (negsuc 0)), first (negsuc 31) 15)
    -- "8 wide by 4 high, all 1: first 45, others 0. All -1: first -45."
    ∷ (block 8 4 0 (all 32 (pos 1)), first (pos 45) 31)
    ∷ (take 1 (block 8 4 0 (all 32 (negsuc 0))), negsuc 44 ∷ [])
    -- "4×4 ADST both ways, only the first residual 1: rows 0 0 1 1; 0 1 2 2; 1 2 3 3; 1 2 3 4."
    ∷ (
      block 4 4 1 (first (pos 1) 15),
      map pos (0 ∷ 0 ∷ 1 ∷ 1 ∷ 0 ∷ 1 ∷ 2 ∷ 2 ∷ 1 ∷ 2 ∷ 3 ∷ 3 ∷ 1 ∷ 2 ∷ 3 ∷ 4 ∷ []),
    )
    -- "ADST8 pass, shift 2, a line with only its first sample 1: 3 9 14 18 21 22 20 13."
    ∷ (pass 1 8 2 (first (pos 1) 7), map pos (3 ∷ 9 ∷ 14 ∷ 18 ∷ 21 ∷ 22 ∷ 20 ∷ 13 ∷ []))
    -- "DCT4 pass, shift 1, four samples of 8388608: first -1073741824, others 0."
    ∷ (pass 0 4 1 (all 4 (pos 8388608)), first (negsuc 1073741823) 3)
    -- "raw kernel sums with shift 0": a line with only its first sample 1 gives the kernel's first column, and sums wrap at 32 bits
    ∷ (pass 0 4 0 (first (pos 1) 3), map pos (64 ∷ 83 ∷ 64 ∷ 35 ∷ []))
    ∷ (pass 1 8 0 (first (pos 1) 7), map pos (11 ∷ 34 ∷ 54 ∷ 71 ∷ 84 ∷ 88 ∷ 79 ∷ 50 ∷ []))
    ∷ (pass 0 4 0 (all 4 (pos 8388608)), first (negsuc 2147483647) 3)
    -- "WHT, only the last residual 1: 1 -1 0 -1; 0 0 -1 0; 0 0 0 0; 0 0 -1 0. All 8: first 32, others 0."
    ∷ (
      wht (all 15 (pos 0) ++ (pos 1 ∷ [])),
      pos 1 ∷ negsuc 0 ∷ pos 0 ∷ negsuc 0
          ∷ pos 0 ∷ pos 0 ∷ negsuc 0 ∷ pos 0
          ∷ pos 0 ∷ pos 0 ∷ pos 0 ∷ pos 0
          ∷ pos 0 ∷ pos 0 ∷ negsuc 0 ∷ pos 0 ∷ [],
    )
    ∷ (wht (all 16 (pos 8)), first (pos 32) 15)
    -- "`qstep` of 0, 1, 24, 25, 255: 64, 40, 78, 80, 61440."
    ∷ (map (λ q. pos (step_of q)) (0 ∷ 1 ∷ 24 ∷ 25 ∷ 255 ∷ []), map pos (64 ∷ 40 ∷ 78 ∷ 80 ∷ 61440 ∷ []))
    -- "9 is kept, level 0, magnitude 0.5625; -24 gives -1 and 1.5; 7 is dropped; -9 has level -0.0."
    ∷ (place16 (pos 9), place (kept (fin false 0 (pos 0)) (fin false 9 (negsuc 3))))
    ∷ (place16 (negsuc 23), place (kept (fin true 1 (pos 0)) (fin false 3 (negsuc 0))))
    ∷ (take 1 (place16 (pos 7)), pos 0 ∷ [])
    ∷ (take 2 (place16 (negsuc 8)), pos 1 ∷ bits (fin true 0 (pos 0)) ∷ [])
    ∷ []

-- ---- the test

-- the same integers
abbrev same : List ℤ → List ℤ → Bool
same [] [] = true
same [] (b ∷ s) = false
same (a ∷ r) [] = false
same (a ∷ r) (b ∷ s) = eq_ℤ a b && same r s

-- each definition gives what it is to give
unfoldable pub all_right : List (List ℤ × List ℤ) → Bool
all_right [] = true
all_right (e ∷ es) = same e.0 e.1 && all_right es
