-- The entry at the front of what is left of a recording.
use Rattle.std.specs.Prelude.{ℕ, ◌+◌, ◌*◌, Bool, cond, not, ◌&&◌, ◌||◌, List, length, drop, ◌==◌, nat_le, nat_lt}
use Rattle.std.specs.List.{between}
use Rattle.recording.specs.declared.entry.Flags.{Flags}
use Rattle.recording.specs.Numbers.{number, part, all_zero}
use Rattle.recording.specs.Items.{Item, write, discard, flush, mark, flags_of}

-- the fields of its sector, and its text
abbrev pub sector_in : List ℕ → ℕ
sector_in x = number (part x 0 8)

abbrev pub sectors_in : List ℕ → ℕ
sectors_in x = number (part x 8 8)

abbrev pub bits_in : List ℕ → ℕ
bits_in x = number (part x 16 8)

abbrev pub size_in : List ℕ → ℕ
size_in x = number (part x 24 8)

abbrev pub text_in : List ℕ → List ℕ
text_in x = between 32 (32 + size_in x) x

-- a mark with another flag, or with a sector or a number of sectors that is not 0
abbrev pub mark_flawed : (sector sectors bits : ℕ) → Flags → Bool
mark_flawed sector sectors bits flags = flags.mark && (not (bits == 8) || (not (sector == 0) || not (sectors == 0)))

-- a text of more than 480 bytes, or one without mark
abbrev pub text_flawed : (size : ℕ) → Flags → Bool
text_flawed size flags = nat_lt 480 size || (not (size == 0) && not flags.mark)

-- discard with FUA; no sectors, without mark or flush
abbrev pub flags_flawed : (sectors : ℕ) → Flags → Bool
flags_flawed sectors flags = (flags.discard && flags.fua) || (sectors == 0 && (not flags.mark && not flags.flush))

-- the fields break a rule; 32 and more has a flag above 16
abbrev pub fields_flawed : (sector sectors bits size : ℕ) → Bool
fields_flawed sector sectors bits size =
    nat_le 32 bits || (mark_flawed sector sectors bits (flags_of bits) || (text_flawed size (flags_of bits) || flags_flawed sectors (flags_of bits)))

-- the entry's sector breaks a rule: a field, or a byte that is not 0 behind fields and text
abbrev pub malformed : List ℕ → Bool
malformed x = fields_flawed (sector_in x) (sectors_in x) (bits_in x) (size_in x) || not (all_zero (between (32 + size_in x) 512 x))

-- the entry's sector is not complete
abbrev pub sector_cut : List ℕ → Bool
sector_cut x = nat_lt (length x) 512

-- how many sectors of data follow: a discard has none
abbrev pub data_in : List ℕ → ℕ
data_in x = cond (flags_of (bits_in x)).discard 0 (sectors_in x)

-- the entry's data are not complete
abbrev pub data_cut : List ℕ → Bool
data_cut x = nat_lt (length x) (512 + 512 * data_in x)

-- an entry that is no mark, by its sector, its number of sectors, its flags and its data
abbrev pub item_of : (sector sectors : ℕ) → Flags → (content : List ℕ) → Item
item_of sector sectors flags content =
    cond (sectors == 0) (flush sector flags.fua flags.discard flags.metadata)
    (cond flags.discard (discard sector sectors flags.flush flags.metadata)
    (write sector flags.flush flags.fua flags.metadata content))

-- the entry itself
abbrev pub item_in : List ℕ → Item
item_in x =
    cond (flags_of (bits_in x)).mark (mark (text_in x))
    (item_of (sector_in x) (sectors_in x) (flags_of (bits_in x)) (between 512 (512 + 512 * data_in x) x))

-- what is left behind it
abbrev pub rest_of : List ℕ → List ℕ
rest_of x = drop (512 + 512 * data_in x) x
