-- A word that says nothing is no node's.
use Rattle.std.proofs.Common.{◌≡◌, ℕ, false, arith}
use Rattle.filesystem.specs.declared.node_word.NodeWord.{NodeWord}
use Rattle.filesystem.specs.declared.node_word.NodeWord.TheVariants.{Absent, Directory, File}
use Rattle.filesystem.specs.Words.{parent_in, length_in, sector_in, word_stands}
use Rattle.filesystem.specs.NodeWords.{Says}

pub says_nothing : (lowest count k w : ℕ) → ((said : NodeWord) → Says said w → ⊥) → word_stands lowest count k w ≡ false
says_nothing lowest count k w none =
    let a = none Absent in
    let d = none (Directory (parent_in w)) in
    let f = none (File (parent_in w) (length_in w) (sector_in w)) in
    grind arith
