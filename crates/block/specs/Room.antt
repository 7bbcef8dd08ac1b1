-- What lines of a block ask of their buffers. No public contract mentions it.
use Rattle.std.specs.Prelude.{ℕ, ◌+◌, ◌*◌, ◌≤◌}

-- where the lines end, which is no further than all lines there are, and that just these, of n numbers each, lie within the two buffers
pub record BlockRoom (w h end lines n source target : ℕ) : Type 0 where
  pub ends : end ≤ lines
  pub source_long : w * h + end ≤ lines + source
  pub target_long : end * n ≤ target
