-- The entries of the list hold, by computing. Assumes nothing.
use lib.Dec.{T}
use lib.Ieee.{add, sub, mul, div, le, of_int, to_bits}
use Rattle.laws.specs.Integer.{wrap_at, wrap32}
use Rattle.laws.specs.Store.{tab}
use Rattle.laws.specs.Sum.{sum_to}
use Rattle.sizes.specs.Shift.{shifts, lookup, first_shift, second_shift}
use Rattle.sizes.specs.Size.{log_of}
use Rattle.fixed.specs.Limit.{is_within}
use Rattle.fixed.specs.Fixed.{floor_shift, half, round_exact, round_shift, scaled}
use Rattle.kernels.specs.Adst.{adst4, adst8, adst}
use Rattle.kernels.specs.Dct.{dct32, dct}
use Rattle.kernels.specs.Kernel.{kernel}
use Rattle.lines.specs.Pass.{pass_sum, pass_at}
use Rattle.block.specs.Block.{column_at, columns, is_odd, rescaled, row_at}
use Rattle.wht.specs.Wht.{wht_four, line_of, rows, wht_of}
use Rattle.wht.specs.Wht.{columns as wht-columns}
use Rattle.quant.specs.Float.{max0_of, round_of}
use Rattle.quant.specs.Level.{level_of, level_at, magnitude_at}
use Rattle.quant.specs.Place.{place_of, one_answer}
use Rattle.quant.specs.Settings.{settings_ok, coefficient_ok}
use Rattle.quant.specs.Step.{steps, step_at, step_of}
use Rattle.examples.specs.Examples.{examples, all_right}

pub all_right_lem : T (all_right examples)
unfolding examples all_right tab sum_to wrap_at wrap32 floor_shift half round_exact round_shift scaled
    shifts lookup first_shift second_shift log_of adst4 adst8 adst dct32 dct kernel pass_sum pass_at column_at columns is_odd rescaled row_at
    wht_four line_of rows wht_of wht-columns
    steps step_at step_of one_answer place_of level_at magnitude_at level_of settings_ok coefficient_ok is_within max0_of round_of le add sub mul div of_int to_bits
all_right_lem = tt
