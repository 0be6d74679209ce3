-- Entries of a recording in words.
use Rattle.std.specs.Prelude.{ℕ, ◌+◌, ◌-◌, ◌/◌, max, Bool, List, [], ◌∷◌, ◌++◌, flat_map, length, codes, decimal, Option, Some, None, ◌==◌, if◌then◌else◌}
use Rattle.recording.specs.Items.{Item, write, discard, flush, mark}
use Rattle.console.specs.Texts.{shown}

-- the names of the flags that are set
abbrev pub flag_text : Bool × List ℕ → List ℕ
flag_text flag = if flag.0 then codes ", " ++ flag.1 else []

abbrev pub flags_text : List (Bool × List ℕ) → List ℕ
flags_text flags = flat_map flag_text flags

-- the one sector, or the first and the last; of no sectors the first is named twice
abbrev pub sectors_text : (first sectors : ℕ) → List ℕ
sectors_text first sectors =
    if sectors == 1 then codes "sector " ++ decimal first else codes "sectors " ++ (decimal first ++ (codes " to " ++ decimal (first + max sectors 1 - 1)))

abbrev pub entry_text : Item → List ℕ
entry_text (write sector fl fua meta content) =
    codes "write " ++ (sectors_text sector (length content / 512) ++ flags_text ((fl, codes "flush") ∷ (fua, codes "FUA") ∷ (meta, codes "metadata") ∷ []))
entry_text (discard sector sectors fl meta) =
    codes "discard " ++ (sectors_text sector sectors ++ flags_text ((fl, codes "flush") ∷ (meta, codes "metadata") ∷ []))
entry_text (flush sector fua dis meta) =
    codes "flush without data, names sector " ++ (decimal sector ++ flags_text ((fua, codes "FUA") ∷ (dis, codes "discard") ∷ (meta, codes "metadata") ∷ []))
entry_text (mark text) = codes "mark " ++ shown text

-- what stands before a crash point
abbrev pub point_text : ℕ → Option Item → List ℕ
point_text point None = codes "before the first entry"
point_text point (Some entry) = codes "after entry " ++ (decimal point ++ (codes ", " ++ entry_text entry))
