-- By which number a run declines.
use Rattle.std.specs.Prelude.{ℕ, Some, Option}
use Rattle.image.specs.Refusals as I
use Rattle.taking.specs.Taking as T
use Rattle.run.specs.declared.refusal.Refusal.{Refusal}
use Rattle.run.specs.declared.refusal.Refusal.TheVariants.{Store, TooFewSectors, BaseFault, Recording, NothingLoaded, AlreadyLoaded, NoState, NotJudged, AlreadyJudged, HasEnded}

-- the number and the place of a refusal; want of memory has none
abbrev pub code_of : Refusal → Option (ℕ × ℕ)
code_of (Store f) = Some (I.code_of f)
code_of TooFewSectors = Some (3, 0)
code_of (BaseFault fault) = Some (4, 0)
code_of (Recording f) = T.code_of f
code_of NothingLoaded = Some (21, 0)
code_of AlreadyLoaded = Some (22, 0)
code_of NoState = Some (23, 0)
code_of NotJudged = Some (24, 0)
code_of AlreadyJudged = Some (25, 0)
code_of HasEnded = Some (26, 0)
