-- The lines that say what came of a recovery.
use Rattle.std.specs.Prelude.{ℕ, zero, suc, List, [], ◌++◌, codes, decimal, slice_index_or}
use Rattle.tree.specs.declared.node.Node.{Node}
use Rattle.tree.specs.declared.node.Node.TheVariants.{Absent}
use Rattle.tree.specs.Texts.{written}
use Rattle.filesystem.specs.Outcomes.{Outcome, a_tree, a_fault, code_of}

-- a node's number and the node
abbrev pub node_line : ℕ → Node → List ℕ
node_line k node = decimal k ++ (codes " " ++ (written node ++ codes "\n"))

-- the first n nodes, one a line
unfoldable pub node_lines : List Node → (n : ℕ) → List ℕ
node_lines nodes zero = []
node_lines nodes (suc n) = node_lines nodes n ++ node_line n (slice_index_or nodes n Absent)

-- a fault's number and place
abbrev pub pair_line : ℕ × ℕ → List ℕ
pair_line p = codes "fault " ++ (decimal p.0 ++ (codes " " ++ (decimal p.1 ++ codes "\n")))

-- all 16 nodes, or the fault
abbrev pub lines_of : Outcome → List ℕ
lines_of (a_tree nodes) = node_lines nodes 16
lines_of (a_fault fault) = pair_line (code_of fault)
