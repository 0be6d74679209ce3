use Rattle.std.proofs.Common.{ℕ, ◌<◌}
use Rattle.trace.specs.Meaning.{recording_of, marks_of}
use Rattle.points.specs.Counting.{Fine}
use Rattle.points.proofs.count.check_points.Given as goal

-- the points so far are within the limits
abbrev pub invariant-loop-point : goal.invariant-loop-point
invariant-loop-point g l = (k : ℕ) → k < l.point → Fine (recording_of (g.S.ImageStore.sectors l.base) l.trace) (marks_of l.trace) k
