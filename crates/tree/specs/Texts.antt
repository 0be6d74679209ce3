-- How a node is written.
use Rattle.std.specs.Prelude.{ℕ, List, ◌++◌, codes, decimal}
use Rattle.tree.specs.declared.node.Node.{Node}
use Rattle.tree.specs.declared.node.Node.TheVariants.{Absent, Directory, File}
use Rattle.tree.specs.Hex.{hexes}

-- a letter and the node's numbers, the print as eight hexadecimal digits
abbrev pub written : Node → List ℕ
written Absent = codes "absent"
written (Directory parent) = codes "d " ++ decimal parent
written (File parent length print) = codes "f " ++ (decimal parent ++ (codes " " ++ (decimal length ++ (codes " " ++ hexes 8 print))))
