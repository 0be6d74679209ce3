-- What the word of a node says.
use Rattle.std.specs.Prelude.{◌≡◌, ℕ, ◌%◌, ◌^◌}
use Rattle.filesystem.specs.declared.node_word.NodeWord.{NodeWord}
use Rattle.filesystem.specs.declared.node_word.NodeWord.TheVariants.{Absent, Directory, File}
use Rattle.filesystem.specs.Words.{kind, parent_in, length_in, gap_in, sector_in}

-- the word says so, and its other bits are 0
abbrev pub Says : NodeWord → (word : ℕ) → Type 0
Says Absent w = w ≡ 0
Says (Directory parent) w = (kind w ≡ 1) × (w % 2 ^ 26 ≡ 0) × (parent ≡ parent_in w)
Says (File parent len sector) w = (kind w ≡ 2) × (gap_in w ≡ 0) × (parent ≡ parent_in w) × (len ≡ length_in w) × (sector ≡ sector_in w)
