use Rattle.std.proofs.Common.{List}
use Rattle.recording.specs.Items.{Item}
use Rattle.loading.proofs.Gathering.{Midway}
use Rattle.loading.proofs.reading.read_trace.Given as goal

-- the trace means the entries read so far
abbrev pub invariant-loop-trace : goal.invariant-loop-trace
invariant-loop-trace g l = (items : List Item) × Midway l.bytes l.count l.reader l.used l.trace items

abbrev pub decreases-loop-trace : goal.decreases-loop-trace
decreases-loop-trace g l = l.reader.left
