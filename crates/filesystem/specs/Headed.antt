-- What the head of an image has to be, rule by rule.
use Rattle.std.specs.Prelude.{◌≡◌, ℕ, ◌<◌, ◌≤◌, ◌≢◌, ◌⊎◌, length, Ok, Err}
use Rattle.image.specs.Sectors.{Image}
use Rattle.filesystem.specs.declared.fault.Fault.TheVariants.{Format, Count}
use Rattle.filesystem.specs.Words.{kind, rest}
use Rattle.filesystem.specs.Heads.{head_word, head_of}

-- a word of kind k with the rest n
abbrev pub Word : (k n word : ℕ) → Type 0
Word k n w = (kind w ≡ k) × (rest w ≡ n)

-- sectors enough, the format's word 0, and the number of sectors in word 1
pub record Headed (least format : ℕ) (image : Image) : Type 0 where
  pub room : least ≤ length image
  pub start : head_word image 0 ≡ format
  pub counted : Word 2 (length image) (head_word image 1)

-- THEOREMS. The head is accepted where it is so, and only there.
abbrev pub HeadAccepted : Type 0
HeadAccepted = (least format : ℕ) (image : Image) → (Headed least format image → head_of least format image ≡ Ok tt) × (head_of least format image ≡ Ok tt → Headed least format image)

-- Too few sectors or another format come first, then another number of sectors.
abbrev pub FormatFirst : Type 0
FormatFirst = (least format : ℕ) (image : Image) → (length image < least) ⊎ (head_word image 0 ≢ format) → head_of least format image ≡ Err Format

abbrev pub CountNext : Type 0
CountNext = (least format : ℕ) (image : Image) → least ≤ length image → head_word image 0 ≡ format → (Word 2 (length image) (head_word image 1) → ⊥) → head_of least format image ≡ Err Count
