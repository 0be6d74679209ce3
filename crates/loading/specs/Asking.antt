-- What is asked of an entry between its form and its data, and what is answered.
use Rattle.std.specs.Prelude.{ℕ, ◌+◌, Bool, cond, ◌&&◌, List, Some, None, Ok, Err, Option, Result, nat_lt}
use Rattle.mark.specs.declared.mark.Mark.{Mark}
use Rattle.mark.specs.declared.mark.Mark.TheVariants.{Comment}
use Rattle.mark.specs.Found.{mark_of}
use Rattle.recording.specs.declared.entry.Flags.{Flags}
use Rattle.recording.specs.declared.entry.Header.{Header}
use Rattle.loading.specs.declared.refusal.Refusal.{Refusal}
use Rattle.loading.specs.declared.refusal.Refusal.TheVariants.{NoMark, Outside, TooMuchData}

-- the mark that a text has, if the entry is a mark; else a comment
abbrev pub mark_by : Bool → List ℕ → Option Mark
mark_by isMark text = cond isMark (mark_of text) (Some Comment)

-- the answer, if the mark is known
abbrev pub with_mark : Option Mark → (sector sectors more k used count : ℕ) → Result Mark Refusal
with_mark None sector sectors more k used count = Err (NoMark k)
with_mark (Some m) sector sectors more k used count =
    cond (nat_lt 0 sectors && nat_lt count (sector + sectors)) (Err (Outside k)) (cond (nat_lt 96 (used + more)) (Err (TooMuchData k)) (Ok m))

-- by the fields of an entry's sector
abbrev pub asked : (sector sectors : ℕ) → Flags → (text : List ℕ) → (k used count : ℕ) → Result Mark Refusal
asked sector sectors flags text k used count = with_mark (mark_by flags.mark text) sector sectors (cond flags.discard 0 sectors) k used count

abbrev pub answered : Header → (k used count : ℕ) → Result Mark Refusal
answered h k used count = asked h.sector h.sectors h.flags h.text.now k used count
