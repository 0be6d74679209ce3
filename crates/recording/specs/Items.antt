-- What an entry of a recording says.
use Rattle.std.specs.Prelude.{◌≡◌, ℕ, ◌+◌, ◌*◌, ◌/◌, ◌^◌, ◌<◌, ◌≤◌, Bool, false, cond, ◌&&◌, List, [], length}
use Rattle.image.specs.Sectors.{Bytes}
use Rattle.image.specs.Layers.{has}
use Rattle.recording.specs.declared.entry.Flags.{Flags}

-- An entry: new bytes for the sectors from `sector` on; zeros for so many sectors from there on; a flush that touches no
-- sector, whatever sector it names; or a mark. The flags that it may carry besides are truth values.
pub data Item : Type 0 where
  write : (sector : ℕ) (flush fua metadata : Bool) (content : List ℕ) → Item
  discard : (sector sectors : ℕ) (flush metadata : Bool) → Item
  flush : (sector : ℕ) (fua discard metadata : Bool) → Item
  mark : (text : List ℕ) → Item

-- what the numbers of a flag field say: 1 flush, 2 FUA, 4 discard, 8 mark, 16 metadata
abbrev pub flags_of : ℕ → Flags
flags_of bits = record { flush = has bits 0; fua = has bits 1; discard = has bits 2; mark = has bits 3; metadata = has bits 4 }

-- a flag's number where it is set
abbrev pub worth : Bool → ℕ → ℕ
worth b n = cond b n 0

-- the fields of an entry's sector
abbrev pub sector_of : Item → ℕ
sector_of (write sector fl fua meta content) = sector
sector_of (discard sector sectors fl meta) = sector
sector_of (flush sector fua dis meta) = sector
sector_of (mark text) = 0

abbrev pub sectors_of : Item → ℕ
sectors_of (write sector fl fua meta content) = length content / 512
sectors_of (discard sector sectors fl meta) = sectors
sectors_of (flush sector fua dis meta) = 0
sectors_of (mark text) = 0

abbrev pub bits_of : Item → ℕ
bits_of (write sector fl fua meta content) = worth fl 1 + worth fua 2 + worth meta 16
bits_of (discard sector sectors fl meta) = worth fl 1 + 4 + worth meta 16
bits_of (flush sector fua dis meta) = 1 + worth fua 2 + worth dis 4 + worth meta 16
bits_of (mark text) = 8

-- the text in its sector, and the data behind it
abbrev pub text_of : Item → List ℕ
text_of (write sector fl fua meta content) = []
text_of (discard sector sectors fl meta) = []
text_of (flush sector fua dis meta) = []
text_of (mark text) = text

abbrev pub data_of : Item → List ℕ
data_of (write sector fl fua meta content) = content
data_of (discard sector sectors fl meta) = []
data_of (flush sector fua dis meta) = []
data_of (mark text) = []

-- An entry is within the rules: its numbers have 64 bits, a write's content is one whole sector or more, a discard touches
-- some sector, no flush is at once FUA and discard, and a text has at most 480 bytes.
abbrev pub Formed : Item → Type 0
Formed (write sector fl fua meta content) = (sector < 2 ^ 64) × ((n : ℕ) × (1 ≤ n) × (n < 2 ^ 64) × (length content ≡ 512 * n)) × Bytes content
Formed (discard sector sectors fl meta) = (sector < 2 ^ 64) × (1 ≤ sectors) × (sectors < 2 ^ 64)
Formed (flush sector fua dis meta) = (sector < 2 ^ 64) × (dis && fua ≡ false)
Formed (mark text) = (length text ≤ 480) × Bytes text
