-- The layout of a recording: from the entries to the bytes.
use Rattle.std.specs.Prelude.{ℕ, ◌-◌, ◌≤◌, List, [], ◌∷◌, ◌++◌, length, replicate, codes}
use Rattle.std.specs.List.{AllByRecursion}
use Rattle.recording.specs.Numbers.{field}
use Rattle.recording.specs.Items.{Item, sector_of, sectors_of, bits_of, text_of, data_of, Formed}

-- the first eight bytes
abbrev pub magic : List ℕ
magic = codes "rhswfsj" ++ 0 ∷ []

-- the head sector: the magic, version 1, the number of entries, sectors of 512 bytes, zeros
abbrev pub head_layout : ℕ → List ℕ
head_layout n = magic ++ (field 8 1 ++ (field 8 n ++ (field 4 512 ++ replicate 484 0)))

-- an entry's sector: four fields, the text, zeros
abbrev pub sector_layout : (sector sectors bits : ℕ) (text : List ℕ) → List ℕ
sector_layout sector sectors bits text =
    field 8 sector ++ (field 8 sectors ++ (field 8 bits ++ (field 8 (length text) ++ (text ++ replicate (480 - length text) 0))))

-- an entry: its sector, and then its data
unfoldable pub entry_layout : Item → List ℕ
entry_layout e = sector_layout (sector_of e) (sectors_of e) (bits_of e) (text_of e) ++ data_of e

abbrev pub entries_layout : List Item → List ℕ
entries_layout [] = []
entries_layout (e ∷ es) = entry_layout e ++ entries_layout es

abbrev pub layout : List Item → List ℕ
layout es = head_layout (length es) ++ entries_layout es

-- entries that a recording may have: each within the rules, and 256 at most
abbrev pub Within : List Item → Type 0
Within es = (length es ≤ 256) × AllByRecursion Formed es
