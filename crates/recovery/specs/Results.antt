-- What a recovery answers.
use Rattle.std.specs.Prelude.{Ok, Err, Result}
use Rattle.tree.specs.declared.Tree.{Tree}
use Rattle.filesystem.specs.declared.fault.Fault.{Fault}
use Rattle.filesystem.specs.Outcomes.{Outcome, a_tree, a_fault}

-- the outcome that an answer tells: the tree, by its nodes, or the fault
abbrev pub outcome_of : Result Tree Fault → Outcome
outcome_of (Ok tree) = a_tree tree.nodes
outcome_of (Err fault) = a_fault fault
