-- The status that a program ends with.
use Rattle.std.specs.Prelude.{ℕ, Result, Ok, Err}

-- 0 if it went well, else 1
abbrev pub status_of : {T E : Type 0} → Result T E → ℕ
status_of (Ok x) = 0
status_of (Err e) = 1
