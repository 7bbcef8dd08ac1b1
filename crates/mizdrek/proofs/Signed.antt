-- A preview's answer as one signed number. Assumes nothing.
use mathlib.Core.Path.{◌≡◌, ap}
use mathlib.Core.List.{List}
use lib.Dec.{T}
use lib.IntN.{ℤ}
use lib.ListN.{length}
use Rattle.answer.specs.Answer.{told, is_small}
use Rattle.answer.specs.Answer.{Outcome}
use Rattle.answer.proofs.Answer.{signed_asked}
use Rattle.tickets.specs.declared.Batch.{Batch}
use Rattle.tickets.specs.declared.Ticket.{Ticket}
use Rattle.tickets.proofs.Played.{answer_small}
use Rattle.previews.specs.Preview.{Preview, shows, preview_of}

pub shown_small : (t : Ticket) (b : Batch) (source target room : List ℤ) (o : Outcome) {d : List ℤ} → shows o d ≡ preview_of t b source target room
    → T (is_small (told o))
unfolding preview_of
shown_small t b source target room o e =
    signed_asked (ap (λ (p : Preview). p.answer) e) (answer_small _ t b (length source) (length target))
