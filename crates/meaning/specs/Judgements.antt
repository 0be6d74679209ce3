-- How a recovered tree is judged.
use Rattle.std.specs.Prelude.{ℕ, Bool, true, false, cond, ◌&&◌, ◌||◌, List, [], ◌∷◌, ◌==◌, nat_lt, slice_index_or}
use Rattle.tree.specs.declared.node.Node.{Node}
use Rattle.tree.specs.declared.node.Node.TheVariants.{Absent, Directory, File}
use Rattle.filesystem.specs.Outcomes.{Outcome, a_tree, a_fault}
use Rattle.filesystem.specs.Least.{first_failing}

-- two nodes have the same value
abbrev pub same_node : Node → Node → Bool
same_node Absent Absent = true
same_node Absent (Directory q) = false
same_node Absent (File q m g) = false
same_node (Directory p) Absent = false
same_node (Directory p) (Directory q) = p == q
same_node (Directory p) (File q m g) = false
same_node (File p l h) Absent = false
same_node (File p l h) (Directory q) = false
same_node (File p l h) (File q m g) = p == q && (l == m && h == g)

-- the value is one of those
abbrev pub is_among : Node → List Node → Bool
is_among x [] = false
is_among x (y ∷ ys) = same_node y x || is_among x ys

-- node n of the tree has one of the values that it may have
abbrev pub is_fine : (values : ℕ → List Node) → (tree : List Node) → ℕ → Bool
is_fine values nodes n = is_among (slice_index_or nodes n Absent) (values n)

-- outcome number and node, if `bad` is the lowest node that has none of its values, or 16
abbrev pub judged_at : (bad : ℕ) → ℕ × ℕ
judged_at bad = cond (nat_lt bad 16) (1, bad) (0, 0)

-- 0 for a tree each of whose nodes has one of its values; 1 with the lowest that has not; 2 for a fault
abbrev pub judgement : (values : ℕ → List Node) → Outcome → ℕ × ℕ
judgement values (a_tree nodes) = judged_at (first_failing (is_fine values nodes) 16)
judgement values (a_fault fault) = (2, 0)
