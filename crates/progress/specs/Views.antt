-- Progress as the law sees it.
use Rattle.std.specs.Prelude.{Option, unwrap_or}
use Rattle.image.specs.Sectors.{Image}
use Rattle.law.specs.Subject.{Recording, State}
use Rattle.law.specs.History as H
use Rattle.law.specs.Steps.{View}
use Rattle.progress.specs.declared.condition.Condition.{Condition}
use Rattle.progress.specs.declared.condition.Condition.TheVariants.{Empty, Ready, Waiting, Judged, Left, Ended}
use Rattle.progress.specs.declared.condition.Progress.{Progress}

abbrev pub condition_of : Condition → H.Condition
condition_of Empty = H.Empty
condition_of Ready = H.Ready
condition_of Waiting = H.Waiting
condition_of Judged = H.Judged
condition_of Left = H.Left
condition_of Ended = H.Ended

-- the first state judged unsafe, 0 0 if there is none
abbrev pub first_of : Option State → State
first_of first = unwrap_or first (0, 0)

-- the run over a base and a recording that is so far
abbrev pub view_of : Image → Recording → Progress → View
view_of base R p = record { base = base; recording = R; condition = condition_of p.condition; standing = (p.point, p.rank); judged = p.judged; unsafe = p.unsafe_judged; forgone = p.forgone; passed = p.passed; first = first_of p.first }
