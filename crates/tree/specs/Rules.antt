-- The rules of a tree.
use Rattle.std.specs.Prelude.{ℕ, Bool, true, false, cond, ◌&&◌, List, ◌∷◌, replicate, Some, None, Option, ◌==◌, nat_le, nat_lt, slice_index_or}
use Rattle.tree.specs.declared.node.Node.{Node}
use Rattle.tree.specs.declared.node.Node.TheVariants.{Absent, Directory, File}

abbrev pub is_directory : Node → Bool
is_directory Absent = false
is_directory (Directory parent) = true
is_directory (File parent length print) = false

-- the parent of a node that is there
abbrev pub parent_of : Node → Option ℕ
parent_of Absent = None
parent_of (Directory parent) = Some parent
parent_of (File parent length print) = Some parent

-- the parent of node k is a directory with a lower number
abbrev pub below : List Node → (k parent : ℕ) → Bool
below nodes k parent = nat_lt parent k && is_directory (slice_index_or nodes parent Absent)

-- What is asked of node k by the nodes before it. Node 0 is a directory and its own parent.
abbrev pub placed : List Node → (k : ℕ) → Node → Bool
placed nodes k Absent = nat_lt 0 k
placed nodes k (Directory parent) = cond (k == 0) (parent == 0) (below nodes k parent)
placed nodes k (File parent length print) = below nodes k parent && nat_le length 512

-- WHAT MAKES A TREE: whether a node may stand as node k, and a tree has nodes 0 to 15.
-- Other crates see only this name and its laws (Agreeing, Facts).
unfoldable pub allowed : List Node → (k : ℕ) → Node → Bool
allowed nodes k node = nat_lt k 16 && placed nodes k node

-- node 0 alone
abbrev pub bare : List Node
bare = Directory 0 ∷ replicate 15 Absent
