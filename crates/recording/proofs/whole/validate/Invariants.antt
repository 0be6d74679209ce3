use Rattle.recording.proofs.Midway.{Midway}
use Rattle.recording.proofs.whole.validate.Given as goal

abbrev pub invariant-loop : goal.invariant-loop
invariant-loop l = Midway l.bytes l.reader

abbrev pub decreases-loop : goal.decreases-loop
decreases-loop l = l.reader.left
