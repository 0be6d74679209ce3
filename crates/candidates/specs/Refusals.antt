-- By which number candidates and states are declined.
use Rattle.std.specs.Prelude.{ℕ}
use Rattle.candidates.specs.declared.refusal.Refusal.{Refusal}
use Rattle.candidates.specs.declared.refusal.Refusal.TheVariants.{SectorNumber, Candidates, States}

-- the number and the place of a refusal
abbrev pub code_of : Refusal → ℕ × ℕ
code_of SectorNumber = (2, 0)
code_of (Candidates point) = (13, point)
code_of (States point) = (14, point)
