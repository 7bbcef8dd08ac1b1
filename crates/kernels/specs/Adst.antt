-- The ADST kernels of sides 16, 8 and 4 ("A pass").
use Rattle.std.specs.Prelude.{cond, List, [], ◌∷◌, ℕ, ◌+◌, ◌*◌, eqb, ℤ, pos, negsuc, get_or}

-- place f × 16 + k
unfoldable pub adst16 : List ℤ
adst16 =
    pos 8 ∷ pos 17 ∷ pos 25 ∷ pos 33 ∷ pos 41 ∷ pos 48 ∷ pos 55 ∷ pos 62 ∷ pos 67 ∷ pos 73 ∷ pos 77 ∷ pos 81 ∷ pos 84 ∷ pos 87 ∷ pos 88 ∷ pos 89
    ∷ pos 25 ∷ pos 48 ∷ pos 67 ∷ pos 81 ∷ pos 88 ∷ pos 88 ∷ pos 81 ∷ pos 67 ∷ pos 48 ∷ pos 25 ∷ pos 0 ∷ negsuc 24 ∷ negsuc 47 ∷ negsuc 66 ∷ negsuc 80 ∷ negsuc 87
    ∷ pos 41 ∷ pos 73 ∷ pos 88 ∷ pos 84 ∷ pos 62 ∷ pos 25 ∷ negsuc 16 ∷ negsuc 54 ∷ negsuc 80 ∷ negsuc 88 ∷ negsuc 76 ∷ negsuc 47 ∷ negsuc 7 ∷ pos 33 ∷ pos 67 ∷ pos 87
    ∷ pos 55 ∷ pos 87 ∷ pos 81 ∷ pos 41 ∷ negsuc 16 ∷ negsuc 66 ∷ negsuc 88 ∷ negsuc 72 ∷ negsuc 24 ∷ pos 33 ∷ pos 77 ∷ pos 88 ∷ pos 62 ∷ pos 8 ∷ negsuc 47 ∷ negsuc 83
    ∷ pos 67 ∷ pos 88 ∷ pos 48 ∷ negsuc 24 ∷ negsuc 80 ∷ negsuc 80 ∷ negsuc 24 ∷ pos 48 ∷ pos 88 ∷ pos 67 ∷ pos 0 ∷ negsuc 66 ∷ negsuc 87 ∷ negsuc 47 ∷ pos 25 ∷ pos 81
    ∷ pos 77 ∷ pos 77 ∷ pos 0 ∷ negsuc 76 ∷ negsuc 76 ∷ pos 0 ∷ pos 77 ∷ pos 77 ∷ pos 0 ∷ negsuc 76 ∷ negsuc 76 ∷ pos 0 ∷ pos 77 ∷ pos 77 ∷ pos 0 ∷ negsuc 76
    ∷ pos 84 ∷ pos 55 ∷ negsuc 47 ∷ negsuc 86 ∷ negsuc 7 ∷ pos 81 ∷ pos 62 ∷ negsuc 40 ∷ negsuc 87 ∷ negsuc 16 ∷ pos 77 ∷ pos 67 ∷ negsuc 32 ∷ negsuc 88 ∷ negsuc 24 ∷ pos 73
    ∷ pos 88 ∷ pos 25 ∷ negsuc 80 ∷ negsuc 47 ∷ pos 67 ∷ pos 67 ∷ negsuc 47 ∷ negsuc 80 ∷ pos 25 ∷ pos 88 ∷ pos 0 ∷ negsuc 87 ∷ negsuc 24 ∷ pos 81 ∷ pos 48 ∷ negsuc 66
    ∷ pos 89 ∷ negsuc 7 ∷ negsuc 87 ∷ pos 17 ∷ pos 87 ∷ negsuc 24 ∷ negsuc 83 ∷ pos 33 ∷ pos 81 ∷ negsuc 40 ∷ negsuc 76 ∷ pos 48 ∷ pos 73 ∷ negsuc 54 ∷ negsuc 66 ∷ pos 62
    ∷ pos 87 ∷ negsuc 40 ∷ negsuc 66 ∷ pos 73 ∷ pos 33 ∷ negsuc 87 ∷ pos 8 ∷ pos 84 ∷ negsuc 47 ∷ negsuc 61 ∷ pos 77 ∷ pos 25 ∷ negsuc 88 ∷ pos 17 ∷ pos 81 ∷ negsuc 54
    ∷ pos 81 ∷ negsuc 66 ∷ negsuc 24 ∷ pos 88 ∷ negsuc 47 ∷ negsuc 47 ∷ pos 88 ∷ negsuc 24 ∷ negsuc 66 ∷ pos 81 ∷ pos 0 ∷ negsuc 80 ∷ pos 67 ∷ pos 25 ∷ negsuc 87 ∷ pos 48
    ∷ pos 73 ∷ negsuc 83 ∷ pos 25 ∷ pos 55 ∷ negsuc 88 ∷ pos 48 ∷ pos 33 ∷ negsuc 86 ∷ pos 67 ∷ pos 8 ∷ negsuc 76 ∷ pos 81 ∷ negsuc 16 ∷ negsuc 61 ∷ pos 88 ∷ negsuc 40
    ∷ pos 62 ∷ negsuc 88 ∷ pos 67 ∷ negsuc 7 ∷ negsuc 54 ∷ pos 88 ∷ negsuc 72 ∷ pos 17 ∷ pos 48 ∷ negsuc 86 ∷ pos 77 ∷ negsuc 24 ∷ negsuc 40 ∷ pos 84 ∷ negsuc 80 ∷ pos 33
    ∷ pos 48 ∷ negsuc 80 ∷ pos 88 ∷ negsuc 66 ∷ pos 25 ∷ pos 25 ∷ negsuc 66 ∷ pos 88 ∷ negsuc 80 ∷ pos 48 ∷ pos 0 ∷ negsuc 47 ∷ pos 81 ∷ negsuc 87 ∷ pos 67 ∷ negsuc 24
    ∷ pos 33 ∷ negsuc 61 ∷ pos 81 ∷ negsuc 88 ∷ pos 84 ∷ negsuc 66 ∷ pos 41 ∷ negsuc 7 ∷ negsuc 24 ∷ pos 55 ∷ negsuc 76 ∷ pos 88 ∷ negsuc 86 ∷ pos 73 ∷ negsuc 47 ∷ pos 17
    ∷ pos 17 ∷ negsuc 32 ∷ pos 48 ∷ negsuc 61 ∷ pos 73 ∷ negsuc 80 ∷ pos 87 ∷ negsuc 88 ∷ pos 88 ∷ negsuc 83 ∷ pos 77 ∷ negsuc 66 ∷ pos 55 ∷ negsuc 40 ∷ pos 25 ∷ negsuc 7
    ∷ []

-- place k × 8 + f. These 64 numbers are reconstructed (docs/DIFFERENCES.md), and data: nothing is proved of a particular one of them
unfoldable pub adst8 : List ℤ
adst8 =
    pos 11 ∷ pos 34 ∷ pos 54 ∷ pos 71 ∷ pos 84 ∷ pos 88 ∷ pos 79 ∷ pos 50
    ∷ pos 28 ∷ pos 74 ∷ pos 89 ∷ pos 68 ∷ pos 17 ∷ negsuc 43 ∷ negsuc 82 ∷ negsuc 68
    ∷ pos 44 ∷ pos 89 ∷ pos 48 ∷ negsuc 40 ∷ negsuc 88 ∷ negsuc 43 ∷ pos 50 ∷ pos 81
    ∷ pos 58 ∷ pos 76 ∷ negsuc 33 ∷ negsuc 85 ∷ pos 10 ∷ pos 88 ∷ pos 6 ∷ negsuc 83
    ∷ pos 70 ∷ pos 39 ∷ negsuc 86 ∷ pos 1 ∷ pos 86 ∷ negsuc 43 ∷ negsuc 58 ∷ pos 78
    ∷ pos 79 ∷ negsuc 11 ∷ negsuc 65 ∷ pos 87 ∷ negsuc 34 ∷ negsuc 43 ∷ pos 86 ∷ negsuc 61
    ∷ pos 86 ∷ negsuc 57 ∷ pos 12 ∷ pos 38 ∷ negsuc 74 ∷ pos 88 ∷ negsuc 73 ∷ pos 40
    ∷ pos 89 ∷ negsuc 85 ∷ pos 79 ∷ negsuc 69 ∷ pos 58 ∷ negsuc 43 ∷ pos 29 ∷ negsuc 13
    ∷ []

-- place f × 4 + k
unfoldable pub adst4 : List ℤ
adst4 =
    pos 18 ∷ pos 50 ∷ pos 75 ∷ pos 89
    ∷ pos 50 ∷ pos 89 ∷ pos 18 ∷ negsuc 74
    ∷ pos 75 ∷ pos 18 ∷ negsuc 88 ∷ pos 50
    ∷ pos 89 ∷ negsuc 74 ∷ pos 50 ∷ negsuc 17
    ∷ []

-- frequency f, sample k at side n: "ADST16 and ADST4 read kernel place f × n + k; ADST8 reads k × 8 + f"
unfoldable pub adst : ℕ → ℕ → ℕ → ℤ
adst n f k =
    cond (eqb n 4) (get_or adst4 (f * 4 + k) (pos 0)) (cond (eqb n 8) (get_or adst8 (k * 8 + f) (pos 0)) (get_or adst16 (f * 16 + k) (pos 0)))
