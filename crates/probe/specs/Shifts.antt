-- The two shifts of a size as one number. No public contract mentions it.
use Rattle.std.specs.Prelude.{cond, ◌&&◌, ℕ, ◌+◌, ◌*◌}
use Rattle.sizes.specs.Size.{is_side}
use Rattle.sizes.specs.Shift.{first_shift, second_shift}

unfoldable pub shift_pair : ℕ → ℕ → ℕ
shift_pair w h = cond (is_side w && is_side h) (first_shift w h * 16 + second_shift w h) 0
