-- What a call on a plane answers is a number of 64 bits. Assumes nothing.
use mathlib.Core.Path.{◌≡◌, ap}
use mathlib.Core.List.{List}
use lib.Dec.{T}
use lib.IntN.{ℤ}
use Rattle.answer.specs.Answer.{told, is_small}
use Rattle.answer.proofs.Answer.{signed_asked}
use Rattle.plane.specs.Plane.{Planned, planned}
use Rattle.plane.specs.Batch.{Kept, kept}
use Rattle.plane.specs.declared.Planed.{Planed}

-- a call that writes no buffer
pub planned_small : {g : Planned} (d : Planed) → planned d ≡ g → T (is_small g.answer) → T (is_small (told d.outcome))
planned_small d e t = signed_asked (ap (λ (p : Planned). p.answer) e) t

-- a batch
pub kept_small : {g : Kept} (d : Planed) {buffer : List ℤ} → kept d buffer ≡ g → T (is_small g.answer) → T (is_small (told d.outcome))
kept_small d e t = signed_asked (ap (λ (k : Kept). k.answer) e) t
