-- What the lines of a pass ask of their arguments. No public contract mentions it.
use Rattle.std.specs.Prelude.{ℕ, ◌+◌, ◌*◌, ◌≤◌, ◌<◌}
use Rattle.lines.specs.Line.{EndsIn}

-- count lines from start on, of a pass of this many lines, of n numbers each; ls and ld are the lengths of src and dst, of which just these lines are
-- asked: the last of them ends within src, and all are stored within dst
pub record PassRoom (n lines start count ls ld : ℕ) : Type 0 where
  pub small : lines ≤ 32
  pub ends : start + count ≤ lines
  pub src : n * lines + (start + count) ≤ lines + ls
  pub dst : (start + count) * n ≤ ld

-- line j alone, of at most 32 numbers, stored as line to of dst
pub record LineRoom (n lines j ls to ld : ℕ) : Type 0 where
  pub some : 0 < n
  pub side : n ≤ 32
  pub src : EndsIn n lines j ls
  pub few : to ≤ 32
  pub dst : to * n + n ≤ ld

-- "Output dst[j × n + f]"
abbrev pub on_line : ℕ → ℕ → ℕ → ℕ
on_line n j f = j * n + f
