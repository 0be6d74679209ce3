-- Which sectors an entry writes, and what.
use Rattle.std.specs.Prelude.{ℕ, ◌+◌, ◌-◌, Bool, ◌&&◌, [], replicate, nat_le, nat_lt}
use Rattle.image.specs.Sectors.{Sector, sector_at}
use Rattle.recording.specs.Items.{Item, write, discard, flush, mark, sector_of, sectors_of}

-- the entry writes sector s: one of its sectors, from the first on
abbrev pub writes : Item → ℕ → Bool
writes e s = nat_le (sector_of e) s && nat_lt s (sector_of e + sectors_of e)

-- what it writes to its i-th sector, from 0: its own bytes, or zeros for a discard
abbrev pub nth : Item → ℕ → Sector
nth (write sector fl fua meta content) i = sector_at content i
nth (discard sector sectors fl meta) i = replicate 512 0
nth (flush sector fua dis meta) i = []
nth (mark text) i = []

-- what it writes to sector s
abbrev pub content_of : Item → ℕ → Sector
content_of e s = nth e (s - sector_of e)

-- it touches a sector outside an image of so many sectors
abbrev pub outside : Item → (count : ℕ) → Bool
outside e count = nat_lt 0 (sectors_of e) && nat_lt count (sector_of e + sectors_of e)
