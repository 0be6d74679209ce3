-- What a recording means: its entries, or the first reason to decline it.
use Rattle.std.specs.Prelude.{◌≡◌, ℕ, zero, suc, ◌+◌, List, [], ◌∷◌, length, drop, Some, None, Ok, Err, Option, Result, ◌≢◌}
use Rattle.image.specs.Sectors.{Bytes}
use Rattle.recording.specs.declared.refusal.Refusal.{Refusal}
use Rattle.recording.specs.declared.entry.Reader.{Reader}
use Rattle.recording.specs.Items.{Item}
use Rattle.recording.specs.Layout.{layout, Within}
use Rattle.recording.specs.Heads.{count_in}
use Rattle.recording.specs.Entries.{item_in, rest_of}
use Rattle.recording.specs.Reading.{entry_fault, end_fault, open_fault, ahead, next_number}

-- an answer, unless there is a reason to decline
abbrev pub unless : {A : Type 0} → Option Refusal → Result A Refusal → Result A Refusal
unless None answer = answer
unless (Some f) answer = Err f

-- one entry before the others
abbrev pub prepend : Item → Result (List Item) Refusal → Result (List Item) Refusal
prepend e (Ok es) = Ok (e ∷ es)
prepend e (Err f) = Err f

-- so many entries from the front of x, the first of them being entry k, and nothing behind them
unfoldable pub recorded_from : (left k : ℕ) → List ℕ → Result (List Item) Refusal
recorded_from zero k x = unless (end_fault x) (Ok [])
recorded_from (suc n) k x = unless (entry_fault k x) (prepend (item_in x) (recorded_from n (k + 1) (rest_of x)))

-- the entries of the recording s
unfoldable pub recorded : List ℕ → Result (List Item) Refusal
recorded s = unless (open_fault s) (recorded_from (count_in s) 1 (drop 512 s))

-- what is left before a reader, read to its end
abbrev pub remaining : Reader → Result (List Item) Refusal
remaining r = recorded_from r.left (next_number r) (ahead r)

-- the entries of an answer that has some
abbrev pub items_of : Result (List Item) Refusal → List Item
items_of (Ok es) = es
items_of (Err f) = []

-- how many they are
abbrev pub counted : Result (List Item) Refusal → Result ℕ Refusal
counted (Ok es) = Ok (length es)
counted (Err f) = Err f

-- Reading and layout are two sides of one thing: what is taken is the layout of its entries, which are within the rules, and
-- the layout of any entries within the rules is taken as these.
pub record RecordingLaws : Type 0 where
  pub taken : (s : List ℕ) (es : List Item) → Bytes s → recorded s ≡ Ok es → Within es × (s ≡ layout es)
  pub given : (es : List Item) → Within es → recorded (layout es) ≡ Ok es

-- the answer to a whole recording, against the layout
abbrev pub Validated : List ℕ → Result ℕ Refusal → Type 0
Validated s (Ok n) = (es : List Item) × Within es × (length es ≡ n) × (s ≡ layout es)
Validated s (Err f) = (es : List Item) → Within es → s ≢ layout es
