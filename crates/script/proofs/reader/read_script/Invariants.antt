-- Some lines are read, and the rest grows shorter.
use Rattle.std.proofs.Common.{length}
use Rattle.script.proofs.Reading.{Reading}
use Rattle.script.proofs.reader.read_script.Given as goal

abbrev pub invariant-loop-rest : goal.invariant-loop-rest
invariant-loop-rest l = Reading l.text l.calls.items l.rest

abbrev pub decreases-loop-rest : goal.decreases-loop-rest
decreases-loop-rest l = length l.rest
