-- Document 02's record, both ways, and damaged records, computed. Assumes nothing.
use mathlib.Core.Path.{refl}
use Rattle.laws.specs.Store.{tab}
use Rattle.laws.specs.Sum.{sum_ℕ}
use Rattle.answer.specs.Answer.{lowest}
use Rattle.sizes.specs.Size.{log_of}
use Rattle.format.specs.Pieces.{number_at, side_byte, packed, standing, map_of, listed}
use Rattle.format.specs.Format.{record_of, bytes_of, width_in, height_in, bit_in, listed_in, level_in, length_in, block_in, is_bad, record_answer, found_from, parse}
use Rattle.format.specs.Examples.{Written, Read, Lists, Levels, Damage}

pub written : Written
unfolding bytes_of record_of side_byte packed map_of listed tab sum_ℕ log_of
written = refl

pub read : Read
unfolding parse found_from record_answer lowest is_bad block_in length_in level_in listed_in standing bit_in width_in height_in number_at tab sum_ℕ
read = refl

pub lists : Lists
unfolding parse found_from record_answer lowest is_bad block_in length_in level_in listed_in standing bit_in width_in height_in number_at tab sum_ℕ
lists = refl

pub levels : Levels
unfolding parse found_from record_answer lowest is_bad block_in length_in level_in listed_in standing bit_in width_in height_in number_at tab sum_ℕ
levels = refl

pub damaged : Damage
unfolding parse found_from record_answer lowest is_bad block_in length_in level_in listed_in standing bit_in width_in height_in number_at tab sum_ℕ
damaged = refl
