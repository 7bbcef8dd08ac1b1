-- Document 02's record in lent buffers, computed. Assumes nothing.
use mathlib.Core.Path.{refl}
use Rattle.laws.specs.Store.{tab, pasted}
use Rattle.laws.specs.Sum.{sum_ℕ, sum_of}
use Rattle.answer.specs.Answer.{lowest}
use Rattle.sizes.specs.Size.{is_side, log_of}
use Rattle.format.specs.Pieces.{are_near, number_at, side_byte, packed, standing, map_of, listed}
use Rattle.format.specs.Format.{record_of, bytes_of, width_in, height_in, bit_in, listed_in, level_in, length_in, block_in, is_bad, record_answer, found_from, parse}
use Rattle.records.specs.Examples.{Written, Read, ReadRefused, WriteRefused}
use Rattle.reader.specs.Read.{numbers_of, sides_of, levels_of, numbers_after, sides_after, levels_after}
use Rattle.writer.specs.Write.{block_from, place_at, block_at, blocks_in, write_answer, bytes_after}

pub written : Written
unfolding write_answer bytes_after lowest blocks_in block_at block_from place_at are_near is_side bytes_of record_of side_byte packed map_of listed tab sum_ℕ log_of pasted
written = (refl, refl)

pub read : Read
unfolding numbers_after sides_after levels_after numbers_of sides_of levels_of sum_of pasted parse found_from record_answer lowest is_bad block_in length_in level_in listed_in standing bit_in width_in height_in number_at tab sum_ℕ
read = (refl, refl, refl, refl)

pub read_refused : ReadRefused
unfolding sum_of parse found_from record_answer lowest is_bad block_in length_in level_in listed_in standing bit_in width_in height_in number_at tab sum_ℕ
read_refused = refl

pub write_refused : WriteRefused
unfolding write_answer lowest blocks_in block_at block_from place_at are_near is_side bytes_of record_of side_byte packed map_of listed tab sum_ℕ log_of
write_refused = refl
