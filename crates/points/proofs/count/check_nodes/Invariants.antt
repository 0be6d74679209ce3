use Rattle.std.proofs.Common.{ℕ, ◌<◌}
use Rattle.tree.specs.declared.node.Node.{Node}
use Rattle.trace.specs.Meaning.{marks_of}
use Rattle.candidates.specs.Gathering.{NoneAbove}
use Rattle.candidates.specs.Noding.{values_at}
use Rattle.points.proofs.count.check_nodes.Given as goal

-- the nodes so far have at most 8 candidates
abbrev pub invariant-loop-node : goal.invariant-loop-node
invariant-loop-node l = (n : ℕ) → n < l.node → (start : Node) → NoneAbove (values_at start (marks_of l.trace) n) l.point
