-- A count that stops at its most.
use Rattle.std.specs.Prelude.{ℕ, ◌+◌, min}

-- one more, up to the most that 64 bits count
abbrev pub counted : ℕ → ℕ
counted n = min (n + 1) 18446744073709551615
