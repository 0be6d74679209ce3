-- A node's history holds just the values that are not struck out, in order.
use Rattle.std.specs.Prelude.{◌≡◌, ℕ, ◌↔◌, List, map}
use Rattle.tree.specs.declared.node.Node.{Node}
use Rattle.mark.specs.declared.mark.Mark.{Mark}
use Rattle.crash.specs.Lists.{◌∈◌, Ascending}
use Rattle.crash.specs.Nodes.{node_values, NodeAdmitted, ValueStands, numbered}

pub record NodesAreTheRules : Type 0 where
  -- the numbers of its values, in order
  pub values : (start : Node) (marks : List Mark) (n p : ℕ) →
      (js : List ℕ) × Ascending js × ((j : ℕ) → (j ∈ js) ↔ ValueStands marks n p j) × (node_values start marks n p ≡ map (numbered start marks) js)
  -- a value is admitted exactly if a number that stands has it
  pub members : (start : Node) (marks : List Mark) (n p : ℕ) (v : Node) →
      NodeAdmitted start marks n p v ↔ ((j : ℕ) × ValueStands marks n p j × (numbered start marks j ≡ v))
