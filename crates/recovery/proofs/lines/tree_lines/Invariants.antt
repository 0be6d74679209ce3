-- The lines of the nodes so far.
use Rattle.std.proofs.Common.{◌≡◌, string_bytes}
use Rattle.recovery.specs.Lines.{node_lines}
use Rattle.recovery.proofs.lines.tree_lines.Given as goal

abbrev pub invariant-loop-k : goal.invariant-loop-k
invariant-loop-k l = string_bytes l.lines ≡ node_lines l.initial.tree.nodes l.k-counter
