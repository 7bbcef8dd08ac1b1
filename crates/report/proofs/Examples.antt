-- What the program prints for a few files, computed. Assumes nothing.
use mathlib.Core.Path.{refl}
use Rattle.laws.specs.Store.{tab}
use Rattle.laws.specs.Sum.{sum_ℕ, sum_of}
use Rattle.answer.specs.Answer.{lowest}
use Rattle.format.specs.Pieces.{number_at, standing}
use Rattle.format.specs.Format.{width_in, height_in, bit_in, listed_in, level_in, length_in, block_in, is_bad, record_answer, found_from, parse}
use Rattle.totals.specs.Totals.{nonzero_in, magnitude_in, report_of}
use Rattle.report.specs.Text.{ascii, decimal, line, text_of, file_report}
use Rattle.report.specs.Examples.{Printed}

pub printed : Printed
unfolding ascii decimal line text_of file_report report_of nonzero_in magnitude_in parse found_from record_answer lowest is_bad block_in length_in level_in listed_in standing bit_in width_in height_in number_at tab sum_ℕ sum_of
printed = (refl, refl, refl, refl)
