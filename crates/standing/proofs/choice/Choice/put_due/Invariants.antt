use Rattle.std.proofs.Common.{◌≡◌, ℕ, Bool}
use Rattle.image.specs.Shown.{shown}
use Rattle.trace.specs.Meaning.{recording_of}
use Rattle.standing.specs.Places.{chosen, Put}
use Rattle.standing.proofs.choice.Choice.put_due.Given as goal

-- the sectors so far are put
abbrev pub invariant-loop-s : goal.invariant-loop-s
invariant-loop-s g l =
    (l.state.below ≡ l.initial.state.below)
    × ((test : ℕ → Bool) → ((s : ℕ) (b : Bool) → goal.F-post g l.due s b → b ≡ test s) →
    Put test (chosen (recording_of (g.S.ImageStore.sectors l.initial.state.below) l.trace) l.self) l.first l.s (shown g.S.ImageStore.sectors l.initial.state) (shown g.S.ImageStore.sectors l.state))
