-- The head sector of a recording.
use Rattle.std.specs.Prelude.{ℕ, Bool, not, ◌||◌, List, length, ◌==◌, nat_lt}
use Rattle.std.specs.List.{between}
use Rattle.std.specs.Str.{bytes_eq}
use Rattle.recording.specs.Numbers.{number, part, all_zero}
use Rattle.recording.specs.Layout.{magic}

-- the recording is shorter than a sector, or a field or a zero of its head is wrong
abbrev pub head_faulty : List ℕ → Bool
head_faulty s =
    nat_lt (length s) 512
    || (not (bytes_eq (part s 0 8) magic)
    || (not (number (part s 8 8) == 1)
    || (not (number (part s 24 4) == 512)
    || not (all_zero (between 28 512 s)))))

-- how many entries the head tells
abbrev pub count_in : List ℕ → ℕ
count_in s = number (part s 16 8)
