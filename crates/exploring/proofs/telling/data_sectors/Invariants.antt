-- Fewer entries are left after each.
use Rattle.exploring.proofs.telling.data_sectors.Given as goal

abbrev pub decreases-loop-entry : goal.decreases-loop-entry
decreases-loop-entry l = l.reader.left
