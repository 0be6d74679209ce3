-- Lists of at most 16 nodes.
use Rattle.std.specs.Prelude.{List, take}
use Rattle.tree.specs.declared.node.Node.{Node}
use Rattle.tree.specs.declared.list.Nodes.{Nodes}

abbrev pub listed : Nodes → List Node
listed nodes = take nodes.used nodes.cells
