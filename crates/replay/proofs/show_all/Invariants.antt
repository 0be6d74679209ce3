-- Each turn reads one entry.
use Rattle.replay.proofs.show_all.Given as goal

abbrev pub decreases-loop-entry : goal.decreases-loop-entry
decreases-loop-entry l = l.reader.left
