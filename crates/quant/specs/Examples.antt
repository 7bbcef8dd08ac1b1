-- Two of document 01's "Faults that look like work", as tests of the definitions.
use Rattle.std.specs.Prelude.{Bool, false, [], ◌∷◌, ◌-◌, ◌^◌, eqb, negsuc}
use Rattle.std.specs.Float.{fin, binary32}
use Rattle.std.specs.Float.Ieee.{to_bits}
use Rattle.quant.specs.Float.{round_of}
use Rattle.quant.specs.Scan.{place_at}

-- "Rounding a level by adding 0.5 in f32: 0.5 - 2^-25 becomes 1": it is +0.0
unfoldable pub rounding_right : Bool
rounding_right = eqb (to_bits binary32 (round_of (fin false (2 ^ 24 - 1) (negsuc 24)))) 0

-- "Treating a scan that begins 0, 1 as row-major": at width 8 its second entry means place 8
unfoldable pub scan_right : Bool
scan_right = eqb (place_at 8 (0 ∷ 1 ∷ []) 1) 8
