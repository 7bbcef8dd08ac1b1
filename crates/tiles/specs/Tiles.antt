-- What the functions of the C interface give back and leave of a lent plane record: a call's answer as one signed number, and what the call
-- leaves.
use Rattle.std.specs.Prelude.{◌≡◌, List, ℕ, ℤ}
use Rattle.answer.specs.Answer.{signed_of}
use Rattle.plane.specs.Plane.{plane_after, make_answer, made, Planned}
use Rattle.plane.specs.Batch.{Kept}
use Rattle.plane.specs.declared.Plane.{Plane}

-- making a plane where the record given stands: refused, it stays as it was
abbrev pub SignedMaking : ℕ → ℕ → Plane → ℤ → Plane → Type 0
SignedMaking w h given number plane = (number ≡ signed_of (make_answer w h)) × (plane ≡ plane_after (make_answer w h) (made w h) given)

-- an opening or a closing: g is what the call gives back
abbrev pub SignedPlanned : Planned → ℤ → Plane → Type 0
SignedPlanned g number plane = (number ≡ signed_of g.answer) × (plane ≡ g.plane)

-- a batch of a tile
abbrev pub SignedKept : Kept → ℤ → Plane → List ℤ → Type 0
SignedKept g number plane buffer = (number ≡ signed_of g.answer) × (plane ≡ g.plane) × (buffer ≡ g.buffer)
