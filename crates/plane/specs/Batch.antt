-- Batches of a tile: "Batches name room and tile number".
use Rattle.std.specs.Prelude.{false, List, ℕ, ◌*◌, ltb, ℤ, length, Result}
use Rattle.answer.specs.Answer.{Answer, answers, refuses, after, told}
use Rattle.answer.specs.declared.Refusal.{Refusal}
use Rattle.tickets.specs.Batch.{answer_unless, with_batch, lines_of}
use Rattle.tickets.specs.declared.Batch.{Batch}
use Rattle.plane.specs.Places.{tile_of, put_tile}
use Rattle.plane.specs.Plane.{tile_at, area_of, with_ticket, with_tile, tile_answer, plane_after, planned_by}
use Rattle.plane.specs.declared.change.Change.{Change}
use Rattle.plane.specs.declared.Plane.{Plane}
use Rattle.plane.specs.declared.Planed.{Planed}

-- an answer, a record, and the buffer that the call writes
pub record Kept : Type 0 where
  pub answer : Answer
  pub plane : Plane
  pub buffer : List ℤ

abbrev pub kept : Planed → List ℤ → Kept
kept r buffer = record { answer = told r.outcome; plane = r.plane; buffer = buffer }

-- and as the change of an accepted call makes them. No public contract mentions it
abbrev pub kept_by : Plane → Result Change Refusal → List ℤ → Kept
kept_by p r buffer = let g = planned_by p r in record { answer = g.answer; plane = g.plane; buffer = buffer }

-- the record with a batch of tile n marked: "the plane record carrying its ticket"
abbrev pub with_marks : Plane → ℕ → Batch → Plane
with_marks p n b = with_tile p n (with_ticket (tile_at p n) (with_batch (tile_at p n).ticket b))

-- a batch of tile n that its ticket answers so: accepted, it is marked and writes its buffer
abbrev pub marks : Plane → ℕ → Batch → Answer → List ℤ → List ℤ → Kept
marks p n b answer written buffer =
    record {
      answer = answer;
      plane = plane_after answer (with_marks p n b) p;
      buffer = after answer written buffer;
    }

-- 13 or 14 first
abbrev pub unless : Answer → Plane → List ℤ → Kept → Kept
unless (answers n) p buffer k = k
unless (refuses j) p buffer k = record { answer = refuses j; plane = p; buffer = buffer }

-- a column batch: its ticket's, from the residuals into the tile's scratch
unfoldable pub columns_in : Plane → ℕ → ℕ → Batch → List ℤ → List ℤ → Kept
columns_in p room n b residuals scratch =
    let t = (tile_at p n).ticket in
    unless (tile_answer p room n) p scratch
    (marks p n b (answer_unless false t b (length residuals) (length scratch)) (lines_of t b residuals scratch) scratch)

-- a row batch: its ticket's, "its places in the plane, row by row, being its output"; "3 when the output is shorter than the plane"
unfoldable pub rows_in : Plane → ℕ → ℕ → Batch → List ℤ → List ℤ → Kept
rows_in p room n b scratch output =
    let t = tile_at p n in
    let tile = tile_of p.w (area_of t) output in
    unless (tile_answer p room n) p output
    (marks p n b (answer_unless (ltb (length output) (p.w * p.h)) t.ticket b (length scratch) (length tile))
    (put_tile p.w (area_of t) (lines_of t.ticket b scratch tile) output) output)
