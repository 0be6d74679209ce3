-- The journalled layout: sector 2 describes a transaction of k sectors, whose new contents
-- are sectors 3 to 2 + k, and sector 3 + k commits it.
use Rattle.std.specs.Prelude.{ℕ, zero, suc, ◌+◌, ◌*◌, ◌/◌, ◌%◌, ◌^◌, Bool, cond, not, ◌&&◌, ◌||◌, length, Ok, Err, Result, List, map, ◌==◌, nat_le, nat_lt, slice_set}
use Rattle.std.specs.List.{range_with_len, sum_by}
use Rattle.filesystem.specs.declared.fault.Fault.{Fault}
use Rattle.filesystem.specs.declared.fault.Fault.TheVariants.{Sequence}
use Rattle.image.specs.Sectors.{Image, Sector}
use Rattle.filesystem.specs.Outcomes.{Outcome}
use Rattle.filesystem.specs.Words.{word_at, kind, rest, is_word}
use Rattle.filesystem.specs.Heads.{head_word, head_of, unless}
use Rattle.filesystem.specs.Trees.{tree_of}
use Rattle.image.specs.Fetched.{sector_of}
use Rattle.journalled.specs.Below.{every}

-- the image's sequence number
abbrev pub sequence_of : Image → ℕ
sequence_of image = rest (head_word image 2)

-- word 2 of sector 0 is of kind 3
abbrev pub sequenced : Image → Result (Unit {0}) Fault
sequenced image = cond (kind (head_word image 2) == 3) (Ok tt) (Err Sequence)

-- THE DESCRIPTOR. How many sectors it names, and the home of each.
abbrev pub size_in : (descriptor : Sector) → ℕ
size_in d = rest (word_at d 1)

abbrev pub home_in : (descriptor : Sector) → (i : ℕ) → ℕ
home_in d i = rest (word_at d (2 + i))

-- home i is sector 1 or a data sector
abbrev pub home_stands : (count : ℕ) → (descriptor : Sector) → (i : ℕ) → Bool
home_stands count d i = kind (word_at d (2 + i)) == 3 && (home_in d i == 1 || (nat_le 10 (home_in d i) && nat_lt (home_in d i) count))

-- home i is none of those before it
abbrev pub apart : (descriptor : Sector) → (i : ℕ) → Bool
apart d i = every (λ j. not (home_in d j == home_in d i)) i

-- the first k homes
abbrev pub homes_stand : (count : ℕ) → (descriptor : Sector) → (k : ℕ) → Bool
homes_stand count d k = every (λ i. home_stands count d i && apart d i) k

-- word 0 is of kind 1 with the sequence number s; word 1 of kind 2 with the size, 1 to 6; then the homes
unfoldable pub describes : (s count : ℕ) → (descriptor : Sector) → Bool
describes s count d = is_word 1 s (word_at d 0) && (kind (word_at d 1) == 2 && (nat_le 1 (size_in d) && (nat_le (size_in d) 6 && homes_stand count d (size_in d))))

-- the homes that it names
abbrev pub homes_in : (descriptor : Sector) → List ℕ
homes_in d = map (home_in d) (range_with_len 0 (size_in d))

-- THE COMMIT. The sum of all words of a sector, and of sectors 2 to 2 + k.
abbrev pub word_sum : Sector → ℕ
word_sum sector = sum_by (word_at sector) (range_with_len 0 128)

abbrev pub journal_sum : Image → (k : ℕ) → ℕ
journal_sum image k = sum_by (λ n. word_sum (sector_of image n)) (range_with_len 2 (k + 1))

-- word 0 of sector 3 + k is of kind 1 with the sequence number s; word 1 of kind 3 with the sum
unfoldable pub commits : (s : ℕ) → Image → (k : ℕ) → Bool
commits s image k = is_word 1 s (word_at (sector_of image (3 + k)) 0) && is_word 3 (journal_sum image k % 2 ^ 30) (word_at (sector_of image (3 + k)) 1)

-- THE TRANSACTION.
abbrev pub descriptor : Image → Sector
descriptor image = sector_of image 2

abbrev pub size_of : Image → ℕ
size_of image = size_in (descriptor image)

abbrev pub stands : Image → Bool
stands image = describes (sequence_of image) (length image) (descriptor image) && commits (sequence_of image) image (size_of image)

-- the first i of its sectors copied to their homes
unfoldable pub copied : Image → (i : ℕ) → Image
copied image zero = image
copied image (suc i) = slice_set (copied image i) (home_in (descriptor image) i) (sector_of image (3 + i))

-- a sector with word i replaced
unfoldable pub put_word : Sector → (i word : ℕ) → Sector
put_word s i w = slice_set (slice_set (slice_set (slice_set s (4 * i) (w % 256)) (4 * i + 1) (w / 2 ^ 8 % 256)) (4 * i + 2) (w / 2 ^ 16 % 256)) (4 * i + 3) (w / 2 ^ 24 % 256)

-- sector 0 with the next sequence number
abbrev pub advanced : Sector → Sector
advanced head = put_word head 2 (3 * 2 ^ 30 + (rest (word_at head 2) + 1) % 2 ^ 30)

-- all of them copied, and the sequence number advanced
abbrev pub replayed : Image → Image
replayed image = slice_set (copied image (size_of image)) 0 (advanced (sector_of image 0))

-- a transaction that stands is carried out
unfoldable pub recovered : Image → Image
recovered image = cond (stands image) (replayed image) image

-- THE FILE SYSTEM. 16 sectors at least, word 0 of sector 0 is 0x40000001, and data lie from sector 10 on.
abbrev pub headed : Image → Result (Unit {0}) Fault
headed image = head_of 16 0x40000001 image

-- a recovery's outcome, and the image after it: faults 1 to 3 leave the image
abbrev pub journalled_outcome : Image → Outcome
journalled_outcome image = unless (headed image) (unless (sequenced image) (tree_of 10 (recovered image)))

-- one of two, by whether there is no fault
abbrev pub when_ok : {X : Type 0} → Result (Unit {0}) Fault → X → X → X
when_ok (Ok x) a b = a
when_ok (Err fault) a b = b

abbrev pub journalled_after : Image → Image
journalled_after image = when_ok (headed image) (when_ok (sequenced image) (recovered image) image) image
