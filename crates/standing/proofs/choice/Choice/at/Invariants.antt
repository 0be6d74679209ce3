use Rattle.trace.specs.Meaning.{recording_of}
use Rattle.standing.proofs.Listing.{ListedTo}
use Rattle.standing.proofs.choice.Choice.at.Given as goal

-- the sectors so far are listed
abbrev pub invariant-loop-s : goal.invariant-loop-s
invariant-loop-s g l = ListedTo (recording_of (g.S.ImageStore.sectors l.base) l.trace) l.point l.s l.choice
