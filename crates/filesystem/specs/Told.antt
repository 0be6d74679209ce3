-- What an outcome says of the nodes.
use Rattle.std.specs.Prelude.{◌≡◌, ℕ, ◌<◌, true, false, ◌⊎◌, List}
use Rattle.tree.specs.declared.node.Node.{Node}
use Rattle.image.specs.Sectors.{Image}
use Rattle.filesystem.specs.declared.fault.Fault.TheVariants.{NodeWord}
use Rattle.filesystem.specs.Outcomes.{a_tree, a_fault}
use Rattle.filesystem.specs.Trees.{nodes_of, node_stands, tree_of}

-- the outcome is a tree or the fault of a node's word
abbrev pub ToldOne : Type 0
ToldOne = (lowest : ℕ) (image : Image) → (tree_of lowest image ≡ a_tree (nodes_of image)) ⊎ ((p : ℕ) × (tree_of lowest image ≡ a_fault (NodeWord p)))

-- a tree is told where every node stands
abbrev pub ToldTree : Type 0
ToldTree = (lowest : ℕ) (image : Image) (nodes : List Node) → tree_of lowest image ≡ a_tree nodes
    → (nodes ≡ nodes_of image) × ((k : ℕ) → k < 16 → node_stands lowest image k ≡ true)

-- a fault is told at the lowest node that does not stand
abbrev pub ToldFault : Type 0
ToldFault = (lowest : ℕ) (image : Image) (p : ℕ) → tree_of lowest image ≡ a_fault (NodeWord p)
    → (p < 16) × (node_stands lowest image p ≡ false) × ((k : ℕ) → k < p → node_stands lowest image k ≡ true)
