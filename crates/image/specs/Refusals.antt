-- When a store declines, and by which number.
use Rattle.std.specs.Prelude.{ℕ, cond, Ok, Err, Result, ◌==◌, nat_lt}
use Rattle.image.specs.declared.refusal.Refusal.{Refusal}
use Rattle.image.specs.declared.refusal.Refusal.TheVariants.{BufferLength, SectorNumber}

-- the number and the place of a refusal
abbrev pub code_of : Refusal → ℕ × ℕ
code_of BufferLength = (1, 0)
code_of SectorNumber = (2, 0)

-- What is answered to a call for sector n of `count` with a buffer of `size` bytes: the buffer is asked for first.
abbrev pub access : (size n count : ℕ) → Result (Unit {0}) Refusal
access size n count = cond (size == 512) (cond (nat_lt n count) (Ok tt) (Err SectorNumber)) (Err BufferLength)
