-- By which number a history declines.
use Rattle.std.specs.Prelude.{ℕ}
use Rattle.history.specs.declared.refusal.Refusal.{Refusal}
use Rattle.history.specs.declared.refusal.Refusal.TheVariants.{Cells, Full}

-- the number and the place of a refusal
abbrev pub code_of : Refusal → ℕ × ℕ
code_of Cells = (1, 0)
code_of Full = (13, 0)
