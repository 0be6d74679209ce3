-- Small rows of marks, and the values that nodes may then have.
use Rattle.std.specs.Prelude.{◌≡◌, ℕ, List, [], ◌∷◌, ◌++◌, replicate}
use Rattle.tree.specs.declared.node.Node.{Node}
use Rattle.tree.specs.declared.node.Node.TheVariants.{Absent, Directory, File}
use Rattle.mark.specs.declared.mark.Mark.{Mark}
use Rattle.mark.specs.declared.mark.Mark.TheVariants.{File as file, Directory as directory, Absent as absent, Sync as sync, Comment as comment}
use Rattle.crash.specs.Nodes.{node_values, Admitted}

-- node 3 becomes a file with parent 2, length 5 and print 7, is synced, becomes a directory with parent 1, and absent
abbrev pub first : List Mark
first = file 3 2 5 7 ∷ comment ∷ sync 3 ∷ directory 3 1 ∷ absent 3 ∷ []

-- then node 4 becomes a file, and both are synced
abbrev pub marks : List Mark
marks = first ++ (file 4 3 0 0 ∷ sync 4 ∷ sync 3 ∷ [])

-- the values that node n may have at p, if it is a directory with parent 0 in the base
abbrev pub values : (n p : ℕ) → List Node
values n p = node_values (Directory 0) marks n p

-- the root alone, and node 15 below it
abbrev pub bare : List Node
bare = Directory 0 ∷ replicate 15 Absent

abbrev pub fifteenth : List Node
fifteenth = Directory 0 ∷ replicate 14 Absent ++ Directory 0 ∷ []

pub record NodeExamples : Type 0 where
  pub base : values 3 0 ≡ (Directory 0 ∷ [])
  pub a_file : values 3 1 ≡ (Directory 0 ∷ File 2 5 7 ∷ [])
  pub a_comment : values 3 2 ≡ (Directory 0 ∷ File 2 5 7 ∷ [])
  pub synced : values 3 3 ≡ (File 2 5 7 ∷ [])
  pub a_directory : values 3 4 ≡ (File 2 5 7 ∷ Directory 1 ∷ [])
  pub gone : values 3 5 ≡ (File 2 5 7 ∷ Directory 1 ∷ Absent ∷ [])
  -- marks of another node
  pub apart : values 3 7 ≡ (File 2 5 7 ∷ Directory 1 ∷ Absent ∷ [])
  pub synced_gone : values 3 8 ≡ (Absent ∷ [])
  pub before_its_mark : values 4 5 ≡ (Directory 0 ∷ [])
  pub its_mark : values 4 6 ≡ (Directory 0 ∷ File 3 0 0 ∷ [])
  pub its_sync : values 4 7 ≡ (File 3 0 0 ∷ [])
  pub never_named : values 2 8 ≡ (Directory 0 ∷ [])
  -- equal ones are counted
  pub equal : node_values Absent (absent 2 ∷ absent 2 ∷ []) 2 2 ≡ (Absent ∷ Absent ∷ Absent ∷ [])
  -- a tree is admitted by all its nodes, the last too
  pub same : Admitted bare [] 0 bare
  pub last_node : Admitted bare [] 0 fifteenth → ⊥
