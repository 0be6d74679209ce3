-- What an entry does to a disk.
use Rattle.std.specs.Prelude.{ℕ, ◌/◌, Bool, true, false, List, [], map, length, replicate}
use Rattle.std.specs.List.{range_with_len}
use Rattle.image.specs.Sectors.{Sector, sector_at}
use Rattle.recording.specs.Items.{Item, write, discard, flush, mark}

-- It writes contents to the sectors first, first + 1, and so on, and may carry flush and FUA.
pub record Effect : Type 0 where
  pub flush : Bool
  pub fua : Bool
  pub first : ℕ
  pub contents : List Sector

-- a sector of zeros
abbrev pub zeros : Sector
zeros = replicate 512 0

-- The effect of an entry. A discard writes zeros; a flush without sectors and a mark write nothing.
abbrev pub effect_of : Item → Effect
effect_of (write sector fl force meta content) = record { flush = fl; fua = force; first = sector; contents = map (sector_at content) (range_with_len 0 (length content / 512)) }
effect_of (discard sector sectors fl meta) = record { flush = fl; fua = false; first = sector; contents = replicate sectors zeros }
effect_of (flush sector force dis meta) = record { flush = true; fua = force; first = sector; contents = [] }
effect_of (mark text) = record { flush = false; fua = false; first = 0; contents = [] }
