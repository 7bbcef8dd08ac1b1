-- The number of a kind: 0 is DCT, 1 is ADST. No public contract mentions it: public calls take the number.
use Rattle.std.specs.Prelude.{ℕ}
use Rattle.kernels.specs.declared.Kind.{Kind}
use Rattle.kernels.specs.declared.Kind.TheVariants.{Dct, Adst}

abbrev pub kind_number : Kind → ℕ
kind_number Dct = 0
kind_number Adst = 1
