-- Worked examples of the journalled layout.
use Rattle.std.specs.Prelude.{◌≡◌, ℕ, [], ◌∷◌, replicate, codes, slice_index_or}
use Rattle.tree.specs.declared.node.Node.TheVariants.{Absent, Directory, File}
use Rattle.tree.specs.Prints.{print_of}
use Rattle.image.specs.Sectors.{Image}
use Rattle.filesystem.specs.Outcomes.{a_tree}
use Rattle.filesystem.specs.Writing.{padded, written}
use Rattle.journalled.specs.Journal.{journalled_outcome, journalled_after}

-- 16 sectors with the sequence number 7, nodes and data in the journal, and the commit's sum
abbrev pub image : ℕ → Image
image sum =
    written (0x40000001 ∷ 0x80000010 ∷ 0xC0000007 ∷ [])
    ∷ written (0x40000000 ∷ [])
    ∷ written (0x40000007 ∷ 0x80000002 ∷ 0xC0000001 ∷ 0xC000000A ∷ [])
    ∷ written (0x40000000 ∷ 0x8003000A ∷ [])
    ∷ padded (codes "abc")
    ∷ written (0x40000007 ∷ sum ∷ [])
    ∷ replicate 10 (replicate 512 0)

-- the sum is right: the transaction stands, and both sectors come home
abbrev pub Carries : Type 0
Carries = journalled_outcome (image 0xC066627F) ≡ a_tree (Directory 0 ∷ File 0 3 (print_of (codes "abc")) ∷ replicate 14 Absent)

abbrev pub MovesOn : Type 0
MovesOn = slice_index_or (journalled_after (image 0xC066627F)) 0 [] ≡ written (0x40000001 ∷ 0x80000010 ∷ 0xC0000008 ∷ [])

-- the sum is wrong: nothing is written
abbrev pub Ignores : Type 0
Ignores = journalled_outcome (image 0xC066627E) ≡ a_tree (Directory 0 ∷ replicate 15 Absent)

abbrev pub Keeps : Type 0
Keeps = journalled_after (image 0xC066627E) ≡ image 0xC066627E
