-- The tree that the node words of sector 1 mean.
use Rattle.std.specs.Prelude.{ℕ, Bool, cond, ◌&&◌, List, map, length, take, ◌==◌, nat_lt}
use Rattle.std.specs.List.{range_with_len}
use Rattle.tree.specs.declared.node.Node.{Node}
use Rattle.tree.specs.declared.node.Node.TheVariants.{Absent, Directory, File}
use Rattle.tree.specs.Rules.{allowed}
use Rattle.tree.specs.Prints.{print_of}
use Rattle.image.specs.Sectors.{Image}
use Rattle.filesystem.specs.declared.fault.Fault.TheVariants.{NodeWord}
use Rattle.filesystem.specs.Least.{first_failing}
use Rattle.filesystem.specs.Outcomes.{Outcome, a_tree, a_fault}
use Rattle.image.specs.Fetched.{sector_of}
use Rattle.filesystem.specs.Words.{word_at, kind, parent_in, length_in, sector_in, word_stands}

-- the bytes of the file that a word describes: the front of its data sector
abbrev pub bytes_of : Image → (word : ℕ) → List ℕ
bytes_of image w = take (length_in w) (sector_of image (sector_in w))

-- the node that a word means
abbrev pub node_of : Image → (word : ℕ) → Node
node_of image w =
    cond (kind w == 1) (Directory (parent_in w))
    (cond (kind w == 2) (File (parent_in w) (length_in w) (print_of (bytes_of image w)))
    Absent)

-- the word of node k: word k of sector 1
abbrev pub node_word : Image → (k : ℕ) → ℕ
node_word image k = word_at (sector_of image 1) k

-- node k, and all 16
unfoldable pub node_at : Image → (k : ℕ) → Node
node_at image k = node_of image (node_word image k)

unfoldable pub nodes_of : Image → List Node
nodes_of image = map (node_at image) (range_with_len 0 16)

-- node k's word keeps its own rules and the tree's
unfoldable pub node_stands : (lowest : ℕ) → Image → (k : ℕ) → Bool
node_stands lowest image k = word_stands lowest (length image) k (node_word image k) && allowed (nodes_of image) k (node_at image k)

-- the tree, or the fault at the lowest node that does not stand
abbrev pub tree_from : (bad : ℕ) → Image → Outcome
tree_from bad image = cond (nat_lt bad 16) (a_fault (NodeWord bad)) (a_tree (nodes_of image))

unfoldable pub tree_of : (lowest : ℕ) → Image → Outcome
tree_of lowest image = tree_from (first_failing (node_stands lowest image) 16) image
