-- What the reading of a recording into memory answers.
use Rattle.std.specs.Prelude.{◌≡◌, ℕ, ◌+◌, ◌/◌, ◌≤◌, true, false, List, [], map, length, drop, Some, None, Ok, Err, vec_items, Option, Result}
use Rattle.std.specs.List.{range_with_len, AllByRecursion}
use Rattle.image.specs.Sectors.{Sector, sector_at}
use Rattle.mark.specs.declared.mark.Mark.{Mark}
use Rattle.recording.specs.declared.refusal.Refusal as R
use Rattle.recording.specs.Refusals as RC
use Rattle.recording.specs.declared.entry.Entry.{Entry}
use Rattle.recording.specs.declared.entry.Reader.{Reader}
use Rattle.recording.specs.Items.{Item, write, discard, flush, mark, sectors_of, data_of}
use Rattle.recording.specs.Heads.{count_in}
use Rattle.recording.specs.Reading.{open_fault, ahead, next_number, item_seen}
use Rattle.crash.specs.Effects.{effect_of}
use Rattle.trace.specs.declared.steps.Source.{Source}
use Rattle.trace.specs.declared.steps.Source.TheVariants.{Zeros, Data}
use Rattle.trace.specs.declared.steps.Step.{Step}
use Rattle.trace.specs.declared.steps.Trace.{Trace}
use Rattle.trace.specs.Meaning.{effects_of, marks_of}
use Rattle.meaning.specs.Meanings.{mark_in}
use Rattle.meaning.specs.Loads.{entries_from, onwards}
use Rattle.loading.specs.declared.refusal.Refusal.{Refusal}
use Rattle.loading.specs.declared.refusal.Refusal.TheVariants.{Recording, NoMark, Outside, TooMuchData, Memory}

-- the number and the place of a refusal; want of memory has none
abbrev pub code_of : Refusal → Option (ℕ × ℕ)
code_of (Recording f) = Some (RC.code_of f)
code_of (NoMark entry) = Some (10, entry)
code_of (Outside entry) = Some (9, entry)
code_of (TooMuchData entry) = Some (11, entry)
code_of Memory = None

-- the whole sectors of a row of bytes
abbrev pub whole_sectors : List ℕ → List Sector
whole_sectors row = map (sector_at row) (range_with_len 0 (length row / 512))

-- the step of an entry, with its mark, if its data lie from data sector `from` on
abbrev pub step_of : Item → Mark → (from : ℕ) → Step
step_of (write sector fl force meta content) m from = record { flush = fl; fua = force; first = sector; sectors = length content / 512; source = Data from; mark = m }
step_of (discard sector sectors fl meta) m from = record { flush = fl; fua = false; first = sector; sectors = sectors; source = Zeros; mark = m }
step_of (flush sector force dis meta) m from = record { flush = true; fua = force; first = sector; sectors = 0; source = Zeros; mark = m }
step_of (mark text) m from = record { flush = false; fua = false; first = 0; sectors = 0; source = Zeros; mark = m }

-- so many sectors from a source lie within n data sectors
abbrev pub InSource : Source → (sectors n : ℕ) → Type 0
InSource Zeros sectors n = Unit {0}
InSource (Data from) sectors n = from + sectors ≤ n

-- a step's data lie within so many data sectors
abbrev pub LiesIn : (n : ℕ) → Step → Type 0
LiesIn n step = InSource step.source step.sectors n

-- a trace means the entries: their effects and their marks, with every step's data among the data sectors
pub record Means (t : Trace) (items : List Item) : Type 0 where
  pub effects : effects_of t ≡ map effect_of items
  pub marks : marks_of t ≡ map mark_in items
  pub bounded : AllByRecursion (LiesIn (length (vec_items t.sectors))) (vec_items t.steps)

-- why the bytes are declined: for the head, else for an entry or the end
abbrev pub of_entries : Result (List Item) (ℕ × ℕ) → Option (ℕ × ℕ)
of_entries (Ok items) = None
of_entries (Err refusal) = Some refusal

abbrev pub of_head : Option R.Refusal → Option (ℕ × ℕ) → Option (ℕ × ℕ)
of_head (Some f) rest = Some (RC.code_of f)
of_head None rest = rest

-- the entries behind the head
abbrev pub entries_of : List ℕ → (count : ℕ) → Result (List Item) (ℕ × ℕ)
entries_of bytes count = entries_from (count_in bytes) 1 0 count (drop 512 bytes)

abbrev pub fault_of : List ℕ → (count : ℕ) → Option (ℕ × ℕ)
fault_of bytes count = of_head (open_fault bytes) (of_entries (entries_of bytes count))

-- What is answered: the entries in memory; or the first condition that holds; or that memory is wanting, behind the head.
abbrev pub Loaded : List ℕ → (count : ℕ) → Result Trace Refusal → Type 0
Loaded bytes count (Ok t) = (items : List Item) × (open_fault bytes ≡ None) × (entries_of bytes count ≡ Ok items) × Means t items
Loaded bytes count (Err (Recording f)) = fault_of bytes count ≡ Some (RC.code_of f)
Loaded bytes count (Err (NoMark entry)) = fault_of bytes count ≡ Some (10, entry)
Loaded bytes count (Err (Outside entry)) = fault_of bytes count ≡ Some (9, entry)
Loaded bytes count (Err (TooMuchData entry)) = fault_of bytes count ≡ Some (11, entry)
Loaded bytes count (Err Memory) = open_fault bytes ≡ None

-- what is left before a reader, of which `used` data sectors are used
abbrev pub remaining : Reader → (used count : ℕ) → Result (List Item) (ℕ × ℕ)
remaining r used count = entries_from r.left (next_number r) used count (ahead r)

-- The next entry is read from the reader r, which is then s, when n data sectors are used, which are then m: an entry with
-- its mark, whose data are among those m and whose sectors are no more than the image has; or the end; or why not.
abbrev pub NextRead : (count : ℕ) → (r s : Reader) → (n m : ℕ) → Result (Option (Entry × Mark)) Refusal → Type 0
NextRead count r s n m (Ok (Some p)) =
    (remaining r n count ≡ onwards (item_seen p.0) (remaining s m count)) × (p.1 ≡ mark_in (item_seen p.0)) × (s.left + 1 ≡ r.left) × (m ≤ 96)
    × (n + length (data_of (item_seen p.0)) / 512 ≤ m) × (sectors_of (item_seen p.0) ≤ count)
NextRead count r s n m (Ok None) = remaining r n count ≡ Ok []
NextRead count r s n m (Err f) = of_entries (remaining r n count) ≡ code_of f
