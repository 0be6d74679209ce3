-- The plain layout.
use Rattle.std.specs.Prelude.{◌≡◌, Err}
use Rattle.image.specs.Sectors.{Image}
use Rattle.filesystem.specs.declared.fault.Fault.{Fault}
use Rattle.filesystem.specs.Outcomes.{Outcome, a_fault}
use Rattle.filesystem.specs.Heads.{head_of, unless}
use Rattle.filesystem.specs.Headed.{Headed}
use Rattle.filesystem.specs.Trees.{tree_of}

-- 2 sectors at least, word 0 of sector 0 is 0x40000002, and data lie from sector 2 on
abbrev pub plain_outcome : Image → Outcome
plain_outcome image = unless (head_of 2 0x40000002 image) (tree_of 2 image)

-- THEOREMS. A fault of the head comes first; else the node words are read.
abbrev pub HeadFault : Type 0
HeadFault = (image : Image) (f : Fault) → head_of 2 0x40000002 image ≡ Err f → plain_outcome image ≡ a_fault f

abbrev pub ReadTree : Type 0
ReadTree = (image : Image) → Headed 2 0x40000002 image → plain_outcome image ≡ tree_of 2 image
