-- The two tests hold, by computing. Assumes nothing.
use mathlib.Core.Bool.{◌&&◌}
use lib.Dec.{T}
use lib.Ieee.{of_int, to_bits}
use Rattle.quant.specs.Examples.{rounding_right, scan_right}
use Rattle.quant.specs.Float.{round_of}
use Rattle.quant.specs.Scan.{is_by_width, meant, place_at}

pub faults_right : T (rounding_right && scan_right)
unfolding rounding_right round_of of_int to_bits scan_right place_at meant is_by_width
faults_right = tt
