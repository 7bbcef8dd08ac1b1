-- The DCT kernels ("A pass", "kernels"). The repository's numbers decide, not those of H.265.
use Rattle.std.specs.Prelude.{List, [], ◌∷◌, ℕ, ◌+◌, ◌*◌, ◌/◌, ℤ, pos, negsuc, get_or}

-- the kernel of side 32, row by row
unfoldable pub dct32 : List ℤ
dct32 =
    pos 64 ∷ pos 64 ∷ pos 64 ∷ pos 64 ∷ pos 64 ∷ pos 64 ∷ pos 64 ∷ pos 64 ∷ pos 64 ∷ pos 64 ∷ pos 64 ∷ pos 64 ∷ pos 64 ∷ pos 64 ∷ pos 64 ∷ pos 64 ∷ pos 64 ∷ pos 64 ∷ pos 64 ∷ pos 64 ∷ pos 64 ∷ pos 64 ∷ pos 64 ∷ pos 64 ∷ pos 64 ∷ pos 64 ∷ pos 64 ∷ pos 64 ∷ pos 64 ∷ pos 64 ∷ pos 64 ∷ pos 64
    ∷ pos 90 ∷ pos 90 ∷ pos 88 ∷ pos 85 ∷ pos 82 ∷ pos 78 ∷ pos 73 ∷ pos 67 ∷ pos 61 ∷ pos 54 ∷ pos 47 ∷ pos 39 ∷ pos 30 ∷ pos 22 ∷ pos 13 ∷ pos 4 ∷ negsuc 3 ∷ negsuc 12 ∷ negsuc 21 ∷ negsuc 29 ∷ negsuc 38 ∷ negsuc 46 ∷ negsuc 53 ∷ negsuc 60 ∷ negsuc 66 ∷ negsuc 72 ∷ negsuc 77 ∷ negsuc 81 ∷ negsuc 84 ∷ negsuc 87 ∷ negsuc 89 ∷ negsuc 89
    ∷ pos 90 ∷ pos 87 ∷ pos 80 ∷ pos 70 ∷ pos 57 ∷ pos 43 ∷ pos 26 ∷ pos 9 ∷ negsuc 8 ∷ negsuc 25 ∷ negsuc 42 ∷ negsuc 56 ∷ negsuc 69 ∷ negsuc 79 ∷ negsuc 86 ∷ negsuc 89 ∷ negsuc 89 ∷ negsuc 86 ∷ negsuc 79 ∷ negsuc 69 ∷ negsuc 56 ∷ negsuc 42 ∷ negsuc 25 ∷ negsuc 8 ∷ pos 9 ∷ pos 26 ∷ pos 43 ∷ pos 57 ∷ pos 70 ∷ pos 80 ∷ pos 87 ∷ pos 90
    ∷ pos 90 ∷ pos 82 ∷ pos 67 ∷ pos 47 ∷ pos 22 ∷ negsuc 3 ∷ negsuc 29 ∷ negsuc 53 ∷ negsuc 72 ∷ negsuc 84 ∷ negsuc 89 ∷ negsuc 87 ∷ negsuc 77 ∷ negsuc 60 ∷ negsuc 38 ∷ negsuc 12 ∷ pos 13 ∷ pos 39 ∷ pos 61 ∷ pos 78 ∷ pos 88 ∷ pos 90 ∷ pos 85 ∷ pos 73 ∷ pos 54 ∷ pos 30 ∷ pos 4 ∷ negsuc 21 ∷ negsuc 46 ∷ negsuc 66 ∷ negsuc 81 ∷ negsuc 89
    ∷ pos 89 ∷ pos 75 ∷ pos 50 ∷ pos 18 ∷ negsuc 17 ∷ negsuc 49 ∷ negsuc 74 ∷ negsuc 88 ∷ negsuc 88 ∷ negsuc 74 ∷ negsuc 49 ∷ negsuc 17 ∷ pos 18 ∷ pos 50 ∷ pos 75 ∷ pos 89 ∷ pos 89 ∷ pos 75 ∷ pos 50 ∷ pos 18 ∷ negsuc 17 ∷ negsuc 49 ∷ negsuc 74 ∷ negsuc 88 ∷ negsuc 88 ∷ negsuc 74 ∷ negsuc 49 ∷ negsuc 17 ∷ pos 18 ∷ pos 50 ∷ pos 75 ∷ pos 89
    ∷ pos 88 ∷ pos 67 ∷ pos 30 ∷ negsuc 12 ∷ negsuc 53 ∷ negsuc 81 ∷ negsuc 89 ∷ negsuc 77 ∷ negsuc 46 ∷ negsuc 3 ∷ pos 39 ∷ pos 73 ∷ pos 90 ∷ pos 85 ∷ pos 61 ∷ pos 22 ∷ negsuc 21 ∷ negsuc 60 ∷ negsuc 84 ∷ negsuc 89 ∷ negsuc 72 ∷ negsuc 38 ∷ pos 4 ∷ pos 47 ∷ pos 78 ∷ pos 90 ∷ pos 82 ∷ pos 54 ∷ pos 13 ∷ negsuc 29 ∷ negsuc 66 ∷ negsuc 87
    ∷ pos 87 ∷ pos 57 ∷ pos 9 ∷ negsuc 42 ∷ negsuc 79 ∷ negsuc 89 ∷ negsuc 69 ∷ negsuc 25 ∷ pos 26 ∷ pos 70 ∷ pos 90 ∷ pos 80 ∷ pos 43 ∷ negsuc 8 ∷ negsuc 56 ∷ negsuc 86 ∷ negsuc 86 ∷ negsuc 56 ∷ negsuc 8 ∷ pos 43 ∷ pos 80 ∷ pos 90 ∷ pos 70 ∷ pos 26 ∷ negsuc 25 ∷ negsuc 69 ∷ negsuc 89 ∷ negsuc 79 ∷ negsuc 42 ∷ pos 9 ∷ pos 57 ∷ pos 87
    ∷ pos 85 ∷ pos 47 ∷ negsuc 12 ∷ negsuc 66 ∷ negsuc 89 ∷ negsuc 72 ∷ negsuc 21 ∷ pos 39 ∷ pos 82 ∷ pos 88 ∷ pos 54 ∷ negsuc 3 ∷ negsuc 60 ∷ negsuc 89 ∷ negsuc 77 ∷ negsuc 29 ∷ pos 30 ∷ pos 78 ∷ pos 90 ∷ pos 61 ∷ pos 4 ∷ negsuc 53 ∷ negsuc 87 ∷ negsuc 81 ∷ negsuc 38 ∷ pos 22 ∷ pos 73 ∷ pos 90 ∷ pos 67 ∷ pos 13 ∷ negsuc 46 ∷ negsuc 84
    ∷ pos 83 ∷ pos 35 ∷ negsuc 34 ∷ negsuc 82 ∷ negsuc 82 ∷ negsuc 34 ∷ pos 35 ∷ pos 83 ∷ pos 83 ∷ pos 35 ∷ negsuc 34 ∷ negsuc 82 ∷ negsuc 82 ∷ negsuc 34 ∷ pos 35 ∷ pos 83 ∷ pos 83 ∷ pos 35 ∷ negsuc 34 ∷ negsuc 82 ∷ negsuc 82 ∷ negsuc 34 ∷ pos 35 ∷ pos 83 ∷ pos 83 ∷ pos 35 ∷ negsuc 34 ∷ negsuc 82 ∷ negsuc 82 ∷ negsuc 34 ∷ pos 35 ∷ pos 83
    ∷ pos 82 ∷ pos 22 ∷ negsuc 53 ∷ negsuc 89 ∷ negsuc 60 ∷ pos 13 ∷ pos 78 ∷ pos 85 ∷ pos 30 ∷ negsuc 46 ∷ negsuc 89 ∷ negsuc 66 ∷ pos 4 ∷ pos 73 ∷ pos 88 ∷ pos 39 ∷ negsuc 38 ∷ negsuc 87 ∷ negsuc 72 ∷ negsuc 3 ∷ pos 67 ∷ pos 90 ∷ pos 47 ∷ negsuc 29 ∷ negsuc 84 ∷ negsuc 77 ∷ negsuc 12 ∷ pos 61 ∷ pos 90 ∷ pos 54 ∷ negsuc 21 ∷ negsuc 81
    ∷ pos 80 ∷ pos 9 ∷ negsuc 69 ∷ negsuc 86 ∷ negsuc 25 ∷ pos 57 ∷ pos 90 ∷ pos 43 ∷ negsuc 42 ∷ negsuc 89 ∷ negsuc 56 ∷ pos 26 ∷ pos 87 ∷ pos 70 ∷ negsuc 8 ∷ negsuc 79 ∷ negsuc 79 ∷ negsuc 8 ∷ pos 70 ∷ pos 87 ∷ pos 26 ∷ negsuc 56 ∷ negsuc 89 ∷ negsuc 42 ∷ pos 43 ∷ pos 90 ∷ pos 57 ∷ negsuc 25 ∷ negsuc 86 ∷ negsuc 69 ∷ pos 9 ∷ pos 80
    ∷ pos 78 ∷ negsuc 3 ∷ negsuc 81 ∷ negsuc 72 ∷ pos 13 ∷ pos 85 ∷ pos 67 ∷ negsuc 21 ∷ negsuc 87 ∷ negsuc 60 ∷ pos 30 ∷ pos 90 ∷ pos 54 ∷ negsuc 38 ∷ negsuc 89 ∷ negsuc 46 ∷ pos 47 ∷ pos 90 ∷ pos 39 ∷ negsuc 53 ∷ negsuc 89 ∷ negsuc 29 ∷ pos 61 ∷ pos 88 ∷ pos 22 ∷ negsuc 66 ∷ negsuc 84 ∷ negsuc 12 ∷ pos 73 ∷ pos 82 ∷ pos 4 ∷ negsuc 77
    ∷ pos 75 ∷ negsuc 17 ∷ negsuc 88 ∷ negsuc 49 ∷ pos 50 ∷ pos 89 ∷ pos 18 ∷ negsuc 74 ∷ negsuc 74 ∷ pos 18 ∷ pos 89 ∷ pos 50 ∷ negsuc 49 ∷ negsuc 88 ∷ negsuc 17 ∷ pos 75 ∷ pos 75 ∷ negsuc 17 ∷ negsuc 88 ∷ negsuc 49 ∷ pos 50 ∷ pos 89 ∷ pos 18 ∷ negsuc 74 ∷ negsuc 74 ∷ pos 18 ∷ pos 89 ∷ pos 50 ∷ negsuc 49 ∷ negsuc 88 ∷ negsuc 17 ∷ pos 75
    ∷ pos 73 ∷ negsuc 29 ∷ negsuc 89 ∷ negsuc 21 ∷ pos 78 ∷ pos 67 ∷ negsuc 38 ∷ negsuc 89 ∷ negsuc 12 ∷ pos 82 ∷ pos 61 ∷ negsuc 46 ∷ negsuc 87 ∷ negsuc 3 ∷ pos 85 ∷ pos 54 ∷ negsuc 53 ∷ negsuc 84 ∷ pos 4 ∷ pos 88 ∷ pos 47 ∷ negsuc 60 ∷ negsuc 81 ∷ pos 13 ∷ pos 90 ∷ pos 39 ∷ negsuc 66 ∷ negsuc 77 ∷ pos 22 ∷ pos 90 ∷ pos 30 ∷ negsuc 72
    ∷ pos 70 ∷ negsuc 42 ∷ negsuc 86 ∷ pos 9 ∷ pos 90 ∷ pos 26 ∷ negsuc 79 ∷ negsuc 56 ∷ pos 57 ∷ pos 80 ∷ negsuc 25 ∷ negsuc 89 ∷ negsuc 8 ∷ pos 87 ∷ pos 43 ∷ negsuc 69 ∷ negsuc 69 ∷ pos 43 ∷ pos 87 ∷ negsuc 8 ∷ negsuc 89 ∷ negsuc 25 ∷ pos 80 ∷ pos 57 ∷ negsuc 56 ∷ negsuc 79 ∷ pos 26 ∷ pos 90 ∷ pos 9 ∷ negsuc 86 ∷ negsuc 42 ∷ pos 70
    ∷ pos 67 ∷ negsuc 53 ∷ negsuc 77 ∷ pos 39 ∷ pos 85 ∷ negsuc 21 ∷ negsuc 89 ∷ pos 4 ∷ pos 90 ∷ pos 13 ∷ negsuc 87 ∷ negsuc 29 ∷ pos 82 ∷ pos 47 ∷ negsuc 72 ∷ negsuc 60 ∷ pos 61 ∷ pos 73 ∷ negsuc 46 ∷ negsuc 81 ∷ pos 30 ∷ pos 88 ∷ negsuc 12 ∷ negsuc 89 ∷ negsuc 3 ∷ pos 90 ∷ pos 22 ∷ negsuc 84 ∷ negsuc 38 ∷ pos 78 ∷ pos 54 ∷ negsuc 66
    ∷ pos 64 ∷ negsuc 63 ∷ negsuc 63 ∷ pos 64 ∷ pos 64 ∷ negsuc 63 ∷ negsuc 63 ∷ pos 64 ∷ pos 64 ∷ negsuc 63 ∷ negsuc 63 ∷ pos 64 ∷ pos 64 ∷ negsuc 63 ∷ negsuc 63 ∷ pos 64 ∷ pos 64 ∷ negsuc 63 ∷ negsuc 63 ∷ pos 64 ∷ pos 64 ∷ negsuc 63 ∷ negsuc 63 ∷ pos 64 ∷ pos 64 ∷ negsuc 63 ∷ negsuc 63 ∷ pos 64 ∷ pos 64 ∷ negsuc 63 ∷ negsuc 63 ∷ pos 64
    ∷ pos 61 ∷ negsuc 72 ∷ negsuc 46 ∷ pos 82 ∷ pos 30 ∷ negsuc 87 ∷ negsuc 12 ∷ pos 90 ∷ negsuc 3 ∷ negsuc 89 ∷ pos 22 ∷ pos 85 ∷ negsuc 38 ∷ negsuc 77 ∷ pos 54 ∷ pos 67 ∷ negsuc 66 ∷ negsuc 53 ∷ pos 78 ∷ pos 39 ∷ negsuc 84 ∷ negsuc 21 ∷ pos 90 ∷ pos 4 ∷ negsuc 89 ∷ pos 13 ∷ pos 88 ∷ negsuc 29 ∷ negsuc 81 ∷ pos 47 ∷ pos 73 ∷ negsuc 60
    ∷ pos 57 ∷ negsuc 79 ∷ negsuc 25 ∷ pos 90 ∷ negsuc 8 ∷ negsuc 86 ∷ pos 43 ∷ pos 70 ∷ negsuc 69 ∷ negsuc 42 ∷ pos 87 ∷ pos 9 ∷ negsuc 89 ∷ pos 26 ∷ pos 80 ∷ negsuc 56 ∷ negsuc 56 ∷ pos 80 ∷ pos 26 ∷ negsuc 89 ∷ pos 9 ∷ pos 87 ∷ negsuc 42 ∷ negsuc 69 ∷ pos 70 ∷ pos 43 ∷ negsuc 86 ∷ negsuc 8 ∷ pos 90 ∷ negsuc 25 ∷ negsuc 79 ∷ pos 57
    ∷ pos 54 ∷ negsuc 84 ∷ negsuc 3 ∷ pos 88 ∷ negsuc 46 ∷ negsuc 60 ∷ pos 82 ∷ pos 13 ∷ negsuc 89 ∷ pos 39 ∷ pos 67 ∷ negsuc 77 ∷ negsuc 21 ∷ pos 90 ∷ negsuc 29 ∷ negsuc 72 ∷ pos 73 ∷ pos 30 ∷ negsuc 89 ∷ pos 22 ∷ pos 78 ∷ negsuc 66 ∷ negsuc 38 ∷ pos 90 ∷ negsuc 12 ∷ negsuc 81 ∷ pos 61 ∷ pos 47 ∷ negsuc 87 ∷ pos 4 ∷ pos 85 ∷ negsuc 53
    ∷ pos 50 ∷ negsuc 88 ∷ pos 18 ∷ pos 75 ∷ negsuc 74 ∷ negsuc 17 ∷ pos 89 ∷ negsuc 49 ∷ negsuc 49 ∷ pos 89 ∷ negsuc 17 ∷ negsuc 74 ∷ pos 75 ∷ pos 18 ∷ negsuc 88 ∷ pos 50 ∷ pos 50 ∷ negsuc 88 ∷ pos 18 ∷ pos 75 ∷ negsuc 74 ∷ negsuc 17 ∷ pos 89 ∷ negsuc 49 ∷ negsuc 49 ∷ pos 89 ∷ negsuc 17 ∷ negsuc 74 ∷ pos 75 ∷ pos 18 ∷ negsuc 88 ∷ pos 50
    ∷ pos 47 ∷ negsuc 89 ∷ pos 39 ∷ pos 54 ∷ negsuc 89 ∷ pos 30 ∷ pos 61 ∷ negsuc 87 ∷ pos 22 ∷ pos 67 ∷ negsuc 84 ∷ pos 13 ∷ pos 73 ∷ negsuc 81 ∷ pos 4 ∷ pos 78 ∷ negsuc 77 ∷ negsuc 3 ∷ pos 82 ∷ negsuc 72 ∷ negsuc 12 ∷ pos 85 ∷ negsuc 66 ∷ negsuc 21 ∷ pos 88 ∷ negsuc 60 ∷ negsuc 29 ∷ pos 90 ∷ negsuc 53 ∷ negsuc 38 ∷ pos 90 ∷ negsuc 46
    ∷ pos 43 ∷ negsuc 89 ∷ pos 57 ∷ pos 26 ∷ negsuc 86 ∷ pos 70 ∷ pos 9 ∷ negsuc 79 ∷ pos 80 ∷ negsuc 8 ∷ negsuc 69 ∷ pos 87 ∷ negsuc 25 ∷ negsuc 56 ∷ pos 90 ∷ negsuc 42 ∷ negsuc 42 ∷ pos 90 ∷ negsuc 56 ∷ negsuc 25 ∷ pos 87 ∷ negsuc 69 ∷ negsuc 8 ∷ pos 80 ∷ negsuc 79 ∷ pos 9 ∷ pos 70 ∷ negsuc 86 ∷ pos 26 ∷ pos 57 ∷ negsuc 89 ∷ pos 43
    ∷ pos 39 ∷ negsuc 87 ∷ pos 73 ∷ negsuc 3 ∷ negsuc 66 ∷ pos 90 ∷ negsuc 46 ∷ negsuc 29 ∷ pos 85 ∷ negsuc 77 ∷ pos 13 ∷ pos 61 ∷ negsuc 89 ∷ pos 54 ∷ pos 22 ∷ negsuc 81 ∷ pos 82 ∷ negsuc 21 ∷ negsuc 53 ∷ pos 90 ∷ negsuc 60 ∷ negsuc 12 ∷ pos 78 ∷ negsuc 84 ∷ pos 30 ∷ pos 47 ∷ negsuc 89 ∷ pos 67 ∷ pos 4 ∷ negsuc 72 ∷ pos 88 ∷ negsuc 38
    ∷ pos 35 ∷ negsuc 82 ∷ pos 83 ∷ negsuc 34 ∷ negsuc 34 ∷ pos 83 ∷ negsuc 82 ∷ pos 35 ∷ pos 35 ∷ negsuc 82 ∷ pos 83 ∷ negsuc 34 ∷ negsuc 34 ∷ pos 83 ∷ negsuc 82 ∷ pos 35 ∷ pos 35 ∷ negsuc 82 ∷ pos 83 ∷ negsuc 34 ∷ negsuc 34 ∷ pos 83 ∷ negsuc 82 ∷ pos 35 ∷ pos 35 ∷ negsuc 82 ∷ pos 83 ∷ negsuc 34 ∷ negsuc 34 ∷ pos 83 ∷ negsuc 82 ∷ pos 35
    ∷ pos 30 ∷ negsuc 77 ∷ pos 90 ∷ negsuc 60 ∷ pos 4 ∷ pos 54 ∷ negsuc 87 ∷ pos 82 ∷ negsuc 38 ∷ negsuc 21 ∷ pos 73 ∷ negsuc 89 ∷ pos 67 ∷ negsuc 12 ∷ negsuc 46 ∷ pos 85 ∷ negsuc 84 ∷ pos 47 ∷ pos 13 ∷ negsuc 66 ∷ pos 90 ∷ negsuc 72 ∷ pos 22 ∷ pos 39 ∷ negsuc 81 ∷ pos 88 ∷ negsuc 53 ∷ negsuc 3 ∷ pos 61 ∷ negsuc 89 ∷ pos 78 ∷ negsuc 29
    ∷ pos 26 ∷ negsuc 69 ∷ pos 90 ∷ negsuc 79 ∷ pos 43 ∷ pos 9 ∷ negsuc 56 ∷ pos 87 ∷ negsuc 86 ∷ pos 57 ∷ negsuc 8 ∷ negsuc 42 ∷ pos 80 ∷ negsuc 89 ∷ pos 70 ∷ negsuc 25 ∷ negsuc 25 ∷ pos 70 ∷ negsuc 89 ∷ pos 80 ∷ negsuc 42 ∷ negsuc 8 ∷ pos 57 ∷ negsuc 86 ∷ pos 87 ∷ negsuc 56 ∷ pos 9 ∷ pos 43 ∷ negsuc 79 ∷ pos 90 ∷ negsuc 69 ∷ pos 26
    ∷ pos 22 ∷ negsuc 60 ∷ pos 85 ∷ negsuc 89 ∷ pos 73 ∷ negsuc 38 ∷ negsuc 3 ∷ pos 47 ∷ negsuc 77 ∷ pos 90 ∷ negsuc 81 ∷ pos 54 ∷ negsuc 12 ∷ negsuc 29 ∷ pos 67 ∷ negsuc 87 ∷ pos 88 ∷ negsuc 66 ∷ pos 30 ∷ pos 13 ∷ negsuc 53 ∷ pos 82 ∷ negsuc 89 ∷ pos 78 ∷ negsuc 46 ∷ pos 4 ∷ pos 39 ∷ negsuc 72 ∷ pos 90 ∷ negsuc 84 ∷ pos 61 ∷ negsuc 21
    ∷ pos 18 ∷ negsuc 49 ∷ pos 75 ∷ negsuc 88 ∷ pos 89 ∷ negsuc 74 ∷ pos 50 ∷ negsuc 17 ∷ negsuc 17 ∷ pos 50 ∷ negsuc 74 ∷ pos 89 ∷ negsuc 88 ∷ pos 75 ∷ negsuc 49 ∷ pos 18 ∷ pos 18 ∷ negsuc 49 ∷ pos 75 ∷ negsuc 88 ∷ pos 89 ∷ negsuc 74 ∷ pos 50 ∷ negsuc 17 ∷ negsuc 17 ∷ pos 50 ∷ negsuc 74 ∷ pos 89 ∷ negsuc 88 ∷ pos 75 ∷ negsuc 49 ∷ pos 18
    ∷ pos 13 ∷ negsuc 38 ∷ pos 61 ∷ negsuc 77 ∷ pos 88 ∷ negsuc 89 ∷ pos 85 ∷ negsuc 72 ∷ pos 54 ∷ negsuc 29 ∷ pos 4 ∷ pos 22 ∷ negsuc 46 ∷ pos 67 ∷ negsuc 81 ∷ pos 90 ∷ negsuc 89 ∷ pos 82 ∷ negsuc 66 ∷ pos 47 ∷ negsuc 21 ∷ negsuc 3 ∷ pos 30 ∷ negsuc 53 ∷ pos 73 ∷ negsuc 84 ∷ pos 90 ∷ negsuc 87 ∷ pos 78 ∷ negsuc 60 ∷ pos 39 ∷ negsuc 12
    ∷ pos 9 ∷ negsuc 25 ∷ pos 43 ∷ negsuc 56 ∷ pos 70 ∷ negsuc 79 ∷ pos 87 ∷ negsuc 89 ∷ pos 90 ∷ negsuc 86 ∷ pos 80 ∷ negsuc 69 ∷ pos 57 ∷ negsuc 42 ∷ pos 26 ∷ negsuc 8 ∷ negsuc 8 ∷ pos 26 ∷ negsuc 42 ∷ pos 57 ∷ negsuc 69 ∷ pos 80 ∷ negsuc 86 ∷ pos 90 ∷ negsuc 89 ∷ pos 87 ∷ negsuc 79 ∷ pos 70 ∷ negsuc 56 ∷ pos 43 ∷ negsuc 25 ∷ pos 9
    ∷ pos 4 ∷ negsuc 12 ∷ pos 22 ∷ negsuc 29 ∷ pos 39 ∷ negsuc 46 ∷ pos 54 ∷ negsuc 60 ∷ pos 67 ∷ negsuc 72 ∷ pos 78 ∷ negsuc 81 ∷ pos 85 ∷ negsuc 87 ∷ pos 90 ∷ negsuc 89 ∷ pos 90 ∷ negsuc 89 ∷ pos 88 ∷ negsuc 84 ∷ pos 82 ∷ negsuc 77 ∷ pos 73 ∷ negsuc 66 ∷ pos 61 ∷ negsuc 53 ∷ pos 47 ∷ negsuc 38 ∷ pos 30 ∷ negsuc 21 ∷ pos 13 ∷ negsuc 3
    ∷ []

-- where row f of side n begins: "Row k of a smaller DCT is row 32k/n cut to n columns"
abbrev pub row_start : ℕ → ℕ → ℕ
row_start n f = 32 * f / n * 32

-- frequency f, sample k at side n
unfoldable pub dct : ℕ → ℕ → ℕ → ℤ
dct n f k = get_or dct32 (row_start n f + k) (pos 0)
