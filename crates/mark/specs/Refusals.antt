-- By which number a text is declined.
use Rattle.std.specs.Prelude.{ℕ}
use Rattle.mark.specs.declared.refusal.Refusal.{Refusal}
use Rattle.mark.specs.declared.refusal.Refusal.TheVariants.{NoMark}

abbrev pub code_of : Refusal → ℕ
code_of NoMark = 10
