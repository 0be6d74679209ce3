-- What holds of a run in a condition is a fact.
use Rattle.std.proofs.Props.{props}
use Rattle.image.specs.Sectors.{Image}
use Rattle.filesystem.specs.Outcomes.{Outcome}
use Rattle.progress.specs.declared.condition.Condition.{Condition}
use Rattle.progress.specs.declared.condition.Condition.TheVariants.{Empty, Ready, Waiting, Judged, Left, Ended}
use Rattle.progress.specs.declared.condition.Progress.{Progress}
use Rattle.run.specs.declared.space.Space.{Space}
use Rattle.run.specs.Valid.{Stage, Valid}

stage_prop : (c : Condition) (outcome : Image → Outcome) (base state : Image) (space : Space) (p : Progress) → IsProp (Stage c outcome base state space p)
stage_prop Empty outcome base state space p = hlevel props
stage_prop Ready outcome base state space p = hlevel props
stage_prop Waiting outcome base state space p = hlevel props
stage_prop Judged outcome base state space p = hlevel props
stage_prop Left outcome base state space p = hlevel props
stage_prop Ended outcome base state space p = hlevel props

pub valid_prop : (outcome : Image → Outcome) (base state : Image) (space : Space) (p : Progress) → IsProp (Valid outcome base state space p)
valid_prop outcome base state space p = hlevel (props, stage_prop)
