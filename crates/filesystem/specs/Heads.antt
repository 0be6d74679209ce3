-- The first two words of sector 0.
use Rattle.std.specs.Prelude.{ℕ, cond, not, ◌||◌, length, Ok, Err, Result, ◌==◌, nat_lt}
use Rattle.image.specs.Sectors.{Image}
use Rattle.filesystem.specs.declared.fault.Fault.{Fault}
use Rattle.filesystem.specs.declared.fault.Fault.TheVariants.{Format, Count}
use Rattle.filesystem.specs.Outcomes.{Outcome, a_fault}
use Rattle.image.specs.Fetched.{sector_of}
use Rattle.filesystem.specs.Words.{word_at, is_word}

-- word i of sector 0
abbrev pub head_word : Image → (i : ℕ) → ℕ
head_word image i = word_at (sector_of image 0) i

-- fewer sectors than `least` or another word 0 than the format's; then word 1, which is of kind 2 with the number of sectors
abbrev pub head_of : (least format : ℕ) → Image → Result (Unit {0}) Fault
head_of least format image =
    cond (nat_lt (length image) least || not (head_word image 0 == format)) (Err Format)
    (cond (is_word 2 (length image) (head_word image 1)) (Ok tt) (Err Count))

-- an outcome, unless something was at fault before
abbrev pub unless : Result (Unit {0}) Fault → Outcome → Outcome
unless (Ok x) o = o
unless (Err fault) o = a_fault fault
