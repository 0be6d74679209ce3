-- What a refusal says of the base.
use Rattle.std.specs.Prelude.{◌≡◌}
use Rattle.filesystem.specs.Outcomes.{Outcome, a_fault}
use Rattle.run.specs.declared.refusal.Refusal.{Refusal}
use Rattle.run.specs.declared.refusal.Refusal.TheVariants.{Store, TooFewSectors, BaseFault, Recording, NothingLoaded, AlreadyLoaded, NoState, NotJudged, AlreadyJudged, HasEnded}

-- where it names a fault, that is the one that recovery finds in the base
abbrev pub Blames : (recovered : Outcome) → Refusal → Type 0
Blames o (Store f) = Unit {0}
Blames o TooFewSectors = Unit {0}
Blames o (BaseFault fault) = o ≡ a_fault fault
Blames o (Recording f) = Unit {0}
Blames o NothingLoaded = Unit {0}
Blames o AlreadyLoaded = Unit {0}
Blames o NoState = Unit {0}
Blames o NotJudged = Unit {0}
Blames o AlreadyJudged = Unit {0}
Blames o HasEnded = Unit {0}
