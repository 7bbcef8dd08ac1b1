-- The reader on what the writer wrote, and the writer on what the reader read.
use Rattle.std.specs.Prelude.{List, ◌≡◌, ℕ, ◌*◌, ◌^◌, ◌≤◌, ◌<◌, ℤ, length, get_or, take}
use Rattle.laws.specs.Store.{over}
use Rattle.answer.specs.Answer.{answers}
use Rattle.format.specs.Pieces.{Bytes}
use Rattle.format.specs.Format.{parse}
use Rattle.reader.specs.Read.{read_answer, numbers_after, sides_after, levels_after}
use Rattle.writer.specs.Write.{place_at, write_answer, bytes_after}

-- a reading of the m bytes that an accepted writing wrote, into buffers with room: the list that was lent, number by number
abbrev pub WrittenRead : Type 0
WrittenRead =
    (count : ℕ) (numbers sides : List ℕ) (levels : List ℤ) (out : List ℕ) (m : ℕ) → ((i : ℕ) → get_or numbers i 0 < 2 ^ 32)
    → write_answer count numbers sides levels (length out) ≡ answers m
    → (n₀ s₀ : List ℕ) (l₀ : List ℤ) → count ≤ length n₀ → 2 * count ≤ length s₀ → place_at sides count ≤ length l₀ →
    let s = take m (bytes_after count numbers sides levels out) in
    (read_answer (parse s) (length n₀) (length s₀) (length l₀) ≡ answers count)
    × (numbers_after s n₀ s₀ l₀ ≡ over (take count numbers) n₀)
    × (sides_after s n₀ s₀ l₀ ≡ over (take (2 * count) sides) s₀)
    × (levels_after s n₀ s₀ l₀ ≡ over (take (place_at sides count) levels) l₀)

-- a writing of the n blocks that an accepted reading read, into a buffer with room: the bytes that were lent, byte by byte
abbrev pub ReadWritten : Type 0
ReadWritten =
    (s n₀ s₀ : List ℕ) (l₀ : List ℤ) (n : ℕ) → Bytes s
    → read_answer (parse s) (length n₀) (length s₀) (length l₀) ≡ answers n
    → (out : List ℕ) → length s ≤ length out →
    let numbers = numbers_after s n₀ s₀ l₀ in
    let sides = sides_after s n₀ s₀ l₀ in
    let levels = levels_after s n₀ s₀ l₀ in
    (write_answer n numbers sides levels (length out) ≡ answers (length s)) × (bytes_after n numbers sides levels out ≡ over s out)

-- both ways
abbrev pub BothWays : Type 0
BothWays = WrittenRead × ReadWritten
