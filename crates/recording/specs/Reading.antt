-- Reading a recording, entry by entry.
use Rattle.std.specs.Prelude.{◌≡◌, ℕ, ◌+◌, ◌-◌, ◌*◌, ◌<◌, ◌≤◌, Bool, true, false, cond, List, [], ◌++◌, length, take, drop, Some, None, Ok, Err, Option, Result, ◌==◌, ◌≢◌, nat_lt}
use Rattle.recording.specs.declared.refusal.Refusal.{Refusal}
use Rattle.recording.specs.declared.refusal.Refusal.TheVariants.{Head, TooMany, Incomplete, Form, Trailing}
use Rattle.recording.specs.declared.form.Fields.{Fields}
use Rattle.recording.specs.declared.entry.Header.{Header}
use Rattle.recording.specs.declared.entry.Entry.{Entry}
use Rattle.recording.specs.declared.entry.Entry.TheVariants.{Write, Discard, Flush, Mark}
use Rattle.recording.specs.declared.entry.Reader.{Reader}
use Rattle.recording.specs.declared.entry.Found.{Found}
use Rattle.recording.specs.Items.{Item, write, discard, flush, mark, flags_of, Formed}
use Rattle.recording.specs.Layout.{entry_layout}
use Rattle.recording.specs.Heads.{head_faulty, count_in}
use Rattle.recording.specs.Entries.{sector_in, sectors_in, bits_in, size_in, text_in, malformed, sector_cut, data_cut, data_in, item_of, item_in}

-- what an entry in memory says
abbrev pub item_seen : Entry → Item
item_seen (Write sector fl fua meta content place) = write sector fl fua meta content.now
item_seen (Discard sector sectors fl meta) = discard sector sectors fl meta
item_seen (Flush sector fua dis meta) = flush sector fua dis meta
item_seen (Mark text place) = mark text.now

-- its content or text is that of the recording s at its place
abbrev pub Placed : List ℕ → Entry → Type 0
Placed s (Write sector fl fua meta content place) = content.now ≡ take (length content.now) (drop place s)
Placed s (Discard sector sectors fl meta) = Unit {0}
Placed s (Flush sector fua dis meta) = Unit {0}
Placed s (Mark text place) = text.now ≡ take (length text.now) (drop place s)

-- what is left before a reader, and the number of its next entry
abbrev pub ahead : Reader → List ℕ
ahead r = drop r.place r.bytes.now

abbrev pub next_number : Reader → ℕ
next_number r = r.total - r.left + 1

-- the numbers of the sector at the front of x
pub record FieldsIn (f : Fields) (x : List ℕ) : Type 0 where
  pub sector : f.sector ≡ sector_in x
  pub sectors : f.sectors ≡ sectors_in x
  pub bits : f.bits ≡ bits_in x
  pub size : f.size ≡ size_in x

-- the header of the entry at the front of x
abbrev pub HeaderAt : Header → List ℕ → Type 0
HeaderAt h x = (h.sector ≡ sector_in x) × (h.sectors ≡ sectors_in x) × (h.flags ≡ flags_of (bits_in x)) × (h.text.now ≡ text_in x)

-- why the sector of entry k, at the front of x, is declined
abbrev pub sector_fault : ℕ → List ℕ → Option Refusal
sector_fault k x = cond (sector_cut x) (Some (Incomplete k)) (cond (malformed x) (Some (Form k)) None)

-- the first reason, if there is one, else the second
abbrev pub or_else : Option Refusal → Option Refusal → Option Refusal
or_else (Some f) other = Some f
or_else None other = other

-- why entry k, at the front of x, is declined: for its sector, and then for its data
abbrev pub entry_fault : ℕ → List ℕ → Option Refusal
entry_fault k x = or_else (sector_fault k x) (cond (data_cut x) (Some (Incomplete k)) None)

-- why the end is declined
abbrev pub end_fault : List ℕ → Option Refusal
end_fault x = cond (nat_lt 0 (length x)) (Some Trailing) None

-- why a reader declines to go on
abbrev pub reader_fault : Reader → Option Refusal
reader_fault r = cond (r.left == 0) (end_fault (ahead r)) (entry_fault (next_number r) (ahead r))

-- the reader t is the reader r behind its next entry
pub record Moved (r t : Reader) : Type 0 where
  pub bytes : t.bytes ≡ r.bytes
  pub place : t.place ≡ r.place + (512 + 512 * data_in (ahead r))
  pub total : t.total ≡ r.total
  pub left : t.left ≡ r.left - 1

-- where an entry's content or text lies, if its sector lies at `start`
abbrev pub LiesFrom : ℕ → Entry → Type 0
LiesFrom start (Write sector fl fua meta content place) = place ≡ start + 512
LiesFrom start (Discard sector sectors fl meta) = Unit {0}
LiesFrom start (Flush sector fua dis meta) = Unit {0}
LiesFrom start (Mark text place) = place ≡ start + 32

-- the entry of a header, with its content
abbrev pub item_made : Header → List ℕ → Item
item_made h content = cond h.flags.mark (mark h.text.now) (item_of h.sector h.sectors h.flags content)

-- what the reading of entry k at the front of x gives; x lies from `start` on
abbrev pub Finding : (start k : ℕ) → List ℕ → Result Found Refusal → Type 0
Finding start k x (Ok f) = (entry_fault k x ≡ None) × (item_seen f.entry ≡ item_in x) × LiesFrom start f.entry × (f.size ≡ 512 + 512 * data_in x) × (f.size ≤ length x)
Finding start k x (Err f) = entry_fault k x ≡ Some f

-- the same against the layout: it is taken exactly if an entry within the rules is laid out at the front of x
abbrev pub FindingLaid : List ℕ → Result Found Refusal → Type 0
FindingLaid x (Ok f) = Formed (item_seen f.entry) × (x ≡ entry_layout (item_seen f.entry) ++ drop f.size x)
FindingLaid x (Err f) = (e : Item) (r : List ℕ) → Formed e → x ≢ entry_layout e ++ r

-- what the reading of the sector of entry k gives
abbrev pub HeaderFinding : ℕ → List ℕ → Result Header Refusal → Type 0
HeaderFinding k x (Ok h) = (sector_fault k x ≡ None) × HeaderAt h x
HeaderFinding k x (Err f) = sector_fault k x ≡ Some f

-- what is answered to whether a reader is at the end
abbrev pub Ending : Reader → Result Bool Refusal → Type 0
Ending r (Ok true) = (r.left ≡ 0) × (ahead r ≡ [])
Ending r (Ok false) = 0 < r.left
Ending r (Err f) = (r.left ≡ 0) × (end_fault (ahead r) ≡ Some f)

-- what a header's answer says
abbrev pub Heading : Reader → Result (Option Header) Refusal → Type 0
Heading r (Ok None) = (r.left ≡ 0) × (ahead r ≡ [])
Heading r (Ok (Some h)) = (0 < r.left) × (sector_fault (next_number r) (ahead r) ≡ None) × HeaderAt h (ahead r)
Heading r (Err f) = cond (r.left == 0) (end_fault (ahead r)) (sector_fault (next_number r) (ahead r)) ≡ Some f

-- what a step from the reader r to the reader t answers
abbrev pub Stepping : Reader → Reader → Result (Option Entry) Refusal → Type 0
Stepping r t (Ok None) = (r.left ≡ 0) × (ahead r ≡ []) × (t ≡ r)
Stepping r t (Ok (Some e)) = (0 < r.left) × (reader_fault r ≡ None) × (item_seen e ≡ item_in (ahead r)) × Placed r.bytes.now e × Moved r t
Stepping r t (Err f) = (reader_fault r ≡ Some f) × (t ≡ r)

-- The same against the layout: an entry is given exactly where one within the rules is laid out.
abbrev pub Laid : Reader → Reader → Result (Option Entry) Refusal → Type 0
Laid r t (Ok None) = Unit {0}
Laid r t (Ok (Some e)) = Formed (item_seen e) × (ahead r ≡ entry_layout (item_seen e) ++ ahead t)
Laid r t (Err f) = 0 < r.left → (e : Item) (x : List ℕ) → Formed e → ahead r ≢ entry_layout e ++ x

-- why the opening of the recording s is declined
abbrev pub open_fault : List ℕ → Option Refusal
open_fault s = cond (head_faulty s) (Some Head) (cond (nat_lt 256 (count_in s)) (Some TooMany) None)

-- what the opening of a recording answers
abbrev pub Opening : List ℕ → Result Reader Refusal → Type 0
Opening s (Ok r) = (open_fault s ≡ None) × (r.bytes.now ≡ s) × (r.place ≡ 512) × (r.total ≡ count_in s) × (r.left ≡ count_in s)
Opening s (Err f) = open_fault s ≡ Some f
