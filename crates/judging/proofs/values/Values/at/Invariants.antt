use Rattle.trace.specs.Meaning.{marks_of}
use Rattle.judging.proofs.Filling.{FilledTo}
use Rattle.judging.proofs.values.Values.at.Given as goal

-- the lists have the values of each node so far
abbrev pub invariant-loop-n : goal.invariant-loop-n
invariant-loop-n l = FilledTo l.tree.nodes (marks_of l.trace) l.point l.n l.few-items
