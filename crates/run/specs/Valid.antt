-- What holds of the parts of every run, and how the law sees them.
use Rattle.std.specs.Prelude.{◌≡◌, ℕ, false, length}
use Rattle.image.specs.Sectors.{Image}
use Rattle.filesystem.specs.Outcomes.{Outcome, a_tree}
use Rattle.trace.specs.Meaning.{effects_of, marks_of}
use Rattle.law.specs.Subject.{Subject, Recording, nothing}
use Rattle.law.specs.History.{Event, History}
use Rattle.law.specs.Steps.{View, Step, Reached}
use Rattle.meaning.specs.Meanings.{meaning_by}
use Rattle.meaning.specs.Subjects.{subject_of}
use Rattle.progress.specs.declared.condition.Condition.{Condition}
use Rattle.progress.specs.declared.condition.Condition.TheVariants.{Empty, Ready, Waiting, Judged, Left, Ended}
use Rattle.progress.specs.declared.condition.Progress.{Progress}
use Rattle.progress.specs.Views.{view_of}
use Rattle.progress.specs.Bounds.{Bounded, Noted}
use Rattle.taking.specs.Taking.{Fit}
use Rattle.run.specs.declared.space.Space.{Space}
use Rattle.run.specs.Standing.{At}

-- what the recording in memory means, over a base and the tree that it recovers to
abbrev pub meaning_in : (Image → Outcome) → Image → Space → Recording
meaning_in outcome base space = meaning_by outcome base space.tree.nodes (effects_of space.trace) (marks_of space.trace)

-- the recording of a run in a condition: none while nothing is loaded
abbrev pub recording_in : Condition → Recording → Recording
recording_in Empty R = nothing
recording_in Ready R = R
recording_in Waiting R = R
recording_in Judged R = R
recording_in Left R = R
recording_in Ended R = R

-- A recording is loaded: it was taken, the tree is the one that the base recovers to, and n is its last point.
pub record Loaded (outcome : Image → Outcome) (base : Image) (space : Space) (n : ℕ) : Type 0 where
  pub fit : Fit base space.trace
  pub tree : outcome base ≡ a_tree space.tree.nodes
  pub last : n ≡ length (effects_of space.trace)

-- What holds in each condition; `state` is the image of the lower overlay.
abbrev pub Stage : Condition → (Image → Outcome) → Image → Image → Space → Progress → Type 0
Stage Empty outcome base state space p = (p.point ≡ 0) × (state ≡ base)
Stage Ready outcome base state space p = (p.point ≡ 0) × Loaded outcome base space p.last
Stage Waiting outcome base state space p = Loaded outcome base space p.last × At base space p.point p.rank p.states state
Stage Judged outcome base state space p = Loaded outcome base space p.last × At base space p.point p.rank p.states state
Stage Left outcome base state space p = Loaded outcome base space p.last
Stage Ended outcome base state space p = Loaded outcome base space p.last

pub record Valid (outcome : Image → Outcome) (base state : Image) (space : Space) (p : Progress) : Type 0 where
  pub bounded : Bounded p
  pub noted : Noted p
  pub stage : Stage p.condition outcome base state space p

abbrev pub view_by : (Image → Outcome) → Image → Space → Progress → View
view_by outcome base space p = view_of base (recording_in p.condition (meaning_in outcome base space)) p
