-- Worked examples of the plain layout.
use Rattle.std.specs.Prelude.{◌≡◌, ℕ, List, [], ◌∷◌, replicate, codes}
use Rattle.image.specs.Sectors.{Image}
use Rattle.tree.specs.declared.node.Node.TheVariants.{Absent, Directory, File}
use Rattle.tree.specs.Prints.{print_of}
use Rattle.filesystem.specs.declared.fault.Fault.TheVariants.{Format, Count, NodeWord}
use Rattle.filesystem.specs.Outcomes.{a_tree, a_fault}
use Rattle.filesystem.specs.Writing.{padded, written}
use Rattle.plain.specs.Plain.{plain_outcome}

-- three sectors: the head, the given node words, and the bytes abc
abbrev pub image : List ℕ → Image
image nodes = written (0x40000002 ∷ 0x80000003 ∷ []) ∷ written nodes ∷ padded (codes "abc") ∷ []

-- node 0, a directory in it, and a file of three bytes in that
abbrev pub Reads : Type 0
Reads = plain_outcome (image (0x40000000 ∷ 0x40000000 ∷ 0x84030002 ∷ [])) ≡ a_tree (Directory 0 ∷ Directory 0 ∷ File 1 3 (print_of (codes "abc")) ∷ replicate 13 Absent)

-- the parent of node 1 is not there
abbrev pub NoParent : Type 0
NoParent = plain_outcome (image (0x40000000 ∷ 0x44000000 ∷ [])) ≡ a_fault (NodeWord 1)

-- a data sector past the end
abbrev pub PastEnd : Type 0
PastEnd = plain_outcome (image (0x40000000 ∷ 0x80030003 ∷ [])) ≡ a_fault (NodeWord 1)

-- one sector alone
abbrev pub TooFew : Type 0
TooFew = plain_outcome (written (0x40000002 ∷ 0x80000001 ∷ []) ∷ []) ≡ a_fault Format

-- two sectors, and the head says three
abbrev pub Miscounted : Type 0
Miscounted = plain_outcome (written (0x40000002 ∷ 0x80000003 ∷ []) ∷ written (0x40000000 ∷ []) ∷ []) ≡ a_fault Count
