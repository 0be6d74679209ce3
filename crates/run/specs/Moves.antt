-- When a point is entered, and where a state stands.
use Rattle.std.specs.Prelude.{◌≡◌, ℕ, ◌+◌, ◌⊎◌, Some, None, Option}
use Rattle.progress.specs.declared.condition.Condition.{Condition}
use Rattle.progress.specs.declared.condition.Condition.TheVariants.{Empty, Ready, Waiting, Judged, Left, Ended}
use Rattle.progress.specs.declared.condition.Progress.{Progress}

-- The point that is to be entered: 0 by a Ready run, the next one behind the last state of a point or behind a point left.
abbrev pub Enters : Progress → (point : ℕ) → Type 0
Enters p point =
    ((p.condition ≡ Ready) × (point ≡ 0))
    ⊎ (((p.condition ≡ Judged) × (p.rank + 1 ≡ p.states) × (point ≡ p.point + 1)) ⊎ ((p.condition ≡ Left) × (point ≡ p.point + 1)))

-- a state stands, and 1 for one that waits
abbrev pub WaitingIn : Condition → (waiting : ℕ) → Type 0
WaitingIn Empty w = ⊥
WaitingIn Ready w = ⊥
WaitingIn Waiting w = w ≡ 1
WaitingIn Judged w = w ≡ 0
WaitingIn Left w = ⊥
WaitingIn Ended w = ⊥
