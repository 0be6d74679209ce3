-- What comes of a recovery.
use Rattle.std.specs.Prelude.{ℕ, List, Ok, Err, Result}
use Rattle.tree.specs.declared.node.Node.{Node}
use Rattle.filesystem.specs.declared.fault.Fault.{Fault}
use Rattle.filesystem.specs.declared.fault.Fault.TheVariants.{Format, Count, Sequence, NodeWord, Other}

-- the number and the place of a fault
abbrev pub code_of : Fault → ℕ × ℕ
code_of Format = (1, 0)
code_of Count = (2, 0)
code_of Sequence = (3, 0)
code_of (NodeWord node) = (4, node)
code_of (Other number place) = (number, place)

-- a tree, by its nodes, or a fault
pub data Outcome : Type 0 where
  a_tree : List Node → Outcome
  a_fault : Fault → Outcome

-- what an answer tells, with the tree's nodes after it
abbrev pub told : Result (Unit {0}) Fault → List Node → Outcome
told (Ok x) nodes = a_tree nodes
told (Err fault) nodes = a_fault fault
