-- A transaction that stands, and what carrying it out does, rule by rule.
use Rattle.std.specs.Prelude.{◌≡◌, ℕ, ◌+◌, ◌*◌, ◌%◌, ◌^◌, ◌<◌, ◌≤◌, ◌≢◌, ◌⊎◌, length, Err, Decides}
use Rattle.image.specs.Sectors.{Image, Shaped}
use Rattle.filesystem.specs.Words.{word_at, kind}
use Rattle.filesystem.specs.declared.fault.Fault.{Fault}
use Rattle.filesystem.specs.declared.fault.Fault.TheVariants.{Sequence}
use Rattle.filesystem.specs.Heads.{head_word, head_of}
use Rattle.filesystem.specs.Headed.{Headed}
use Rattle.filesystem.specs.Outcomes.{a_fault}
use Rattle.filesystem.specs.Trees.{tree_of}
use Rattle.image.specs.Fetched.{sector_of}
use Rattle.journalled.specs.Journal.{sequence_of, descriptor, home_in, journal_sum, stands, journalled_outcome, journalled_after}

-- word i of sector n
abbrev pub word : Image → (n i : ℕ) → ℕ
word image n i = word_at (sector_of image n) i

-- where sector 3 + i of the journal belongs
abbrev pub home : Image → (i : ℕ) → ℕ
home image i = home_in (descriptor image) i

-- Sector 0 of a journalled image: 16 sectors at least, the format's word, the number of sectors, a sequence number.
pub record Formatted (image : Image) : Type 0 where
  pub head : Headed 16 0x40000001 image
  pub sequence : kind (head_word image 2) ≡ 3

-- A TRANSACTION of k sectors stands in the image.
pub record Transaction (image : Image) (k : ℕ) : Type 0 where
  pub some : 1 ≤ k
  pub few : k ≤ 6
  pub begun : word image 2 0 ≡ 1 * 2 ^ 30 + sequence_of image
  pub sized : word image 2 1 ≡ 2 * 2 ^ 30 + k
  pub named : (i : ℕ) → i < k → kind (word image 2 (2 + i)) ≡ 3
  pub placed : (i : ℕ) → i < k → (home image i ≡ 1) ⊎ ((10 ≤ home image i) × (home image i < length image))
  pub apart : (i j : ℕ) → i < k → j < i → home image j ≢ home image i
  pub committed : word image (3 + k) 0 ≡ 1 * 2 ^ 30 + sequence_of image
  pub summed : word image (3 + k) 1 ≡ 3 * 2 ^ 30 + journal_sum image k % 2 ^ 30

-- It is CARRIED OUT: sectors 3 to 2 + k stand at their homes, every other sector but sector 0 is as it was,
-- and of sector 0 every word but word 2, whose rest is the next sequence number.
pub record Carried (image after : Image) (k : ℕ) : Type 0 where
  pub count : length after ≡ length image
  pub homes : (i : ℕ) → i < k → sector_of after (home image i) ≡ sector_of image (3 + i)
  pub others : (n : ℕ) → n ≢ 0 → ((i : ℕ) → i < k → n ≢ home image i) → sector_of after n ≡ sector_of image n
  pub sequence : head_word after 2 ≡ 3 * 2 ^ 30 + (sequence_of image + 1) % 2 ^ 30
  pub words : (i : ℕ) → i ≢ 2 → head_word after i ≡ head_word image i

-- THEOREMS. The test is whether there is a transaction.
abbrev pub Tested : Type 0
Tested = (image : Image) → Decides (stands image) ((k : ℕ) × Transaction image k)

-- A recovery carries the transaction out. Without one, or with another sector 0, the image is as it was.
abbrev pub CarriedOut : Type 0
CarriedOut = (image : Image) → Shaped image → Formatted image → (k : ℕ) → Transaction image k → Carried image (journalled_after image) k

abbrev pub Untouched : Type 0
Untouched = (image : Image) → ((k : ℕ) → Transaction image k → ⊥) → journalled_after image ≡ image

abbrev pub Unformatted : Type 0
Unformatted = (image : Image) → (Formatted image → ⊥) → journalled_after image ≡ image

-- The tree is read from the image after that. Before it come the faults of the head, then that of the sequence number.
abbrev pub ReadAfter : Type 0
ReadAfter = (image : Image) → Formatted image → journalled_outcome image ≡ tree_of 10 (journalled_after image)

abbrev pub HeadFault : Type 0
HeadFault = (image : Image) (f : Fault) → head_of 16 0x40000001 image ≡ Err f → journalled_outcome image ≡ a_fault f

abbrev pub SequenceFault : Type 0
SequenceFault = (image : Image) → Headed 16 0x40000001 image → kind (head_word image 2) ≢ 3 → journalled_outcome image ≡ a_fault Sequence

-- A second recovery changes nothing.
abbrev pub Settled : Type 0
Settled = (image : Image) → Shaped image → journalled_after (journalled_after image) ≡ journalled_after image
