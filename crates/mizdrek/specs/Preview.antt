-- What a preview of the C interface gives back and leaves: its answer as one signed number, and the preview buffer.
use Rattle.std.specs.Prelude.{◌≡◌, List, ℤ}
use Rattle.answer.specs.Answer.{signed_of}
use Rattle.previews.specs.Preview.{Preview}

abbrev pub SignedPreview : Preview → ℤ → List ℤ → Type 0
SignedPreview p number buffer = (number ≡ signed_of p.answer) × (buffer ≡ p.shown)
