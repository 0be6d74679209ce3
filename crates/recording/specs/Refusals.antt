-- Why a reader declines, and by which number.
use Rattle.std.specs.Prelude.{ℕ}
use Rattle.recording.specs.declared.refusal.Refusal.{Refusal}
use Rattle.recording.specs.declared.refusal.Refusal.TheVariants.{Head, TooMany, Incomplete, Form, Trailing}

-- the number and the place of a refusal
abbrev pub code_of : Refusal → ℕ × ℕ
code_of Head = (5, 0)
code_of TooMany = (6, 0)
code_of (Incomplete entry) = (7, entry)
code_of (Form entry) = (8, entry)
code_of Trailing = (12, 0)
