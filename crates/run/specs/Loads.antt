-- What recovery of the base answers.
use Rattle.std.specs.Prelude.{◌≡◌, Ok, Err, Result}
use Rattle.tree.specs.declared.nodes.Tree.{Tree}
use Rattle.filesystem.specs.declared.fault.Fault.{Fault}
use Rattle.filesystem.specs.Outcomes.{Outcome, a_tree, a_fault}

-- the tree or the fault of an outcome
abbrev pub Recovered : Result Tree Fault → Outcome → Type 0
Recovered (Ok tree) o = o ≡ a_tree tree.nodes
Recovered (Err fault) o = o ≡ a_fault fault
