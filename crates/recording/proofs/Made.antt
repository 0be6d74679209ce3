-- From a header to its entry, and where the entry's bytes lie.
use Rattle.std.proofs.Common.{◌≡◌, ℕ, ◌+◌, ◌-◌, ◌*◌, ◌/◌, ◌<◌, ◌≤◌, Bool, true, false, cond, eqb, List, length, take, drop, Some, None, sym, ap, ◌∙◌, inl, inr, arith}
use Rattle.std.proofs.lemmas.List.{length-take-le, drop-drop, take_all}
use Rattle.std.proofs.lemmas.Bool.{cases_lt, lt-ltb, le-ltb}
use Rattle.std.proofs.lemmas.Nat.{div-add-mod', mod_below}
use Rattle.recording.specs.declared.refusal.Refusal.TheVariants.{Incomplete, Form}
use Rattle.recording.specs.declared.entry.Flags.{Flags}
use Rattle.recording.specs.declared.entry.Header.{Header}
use Rattle.recording.specs.declared.entry.Entry.{Entry}
use Rattle.recording.specs.declared.entry.Entry.TheVariants.{Write, Discard, Flush, Mark}
use Rattle.recording.specs.Items.{Item, write, discard, flush, mark, flags_of}
use Rattle.recording.specs.Entries.{sector_in, sectors_in, bits_in, text_in, data_in, data_cut, malformed, item_of, item_in}
use Rattle.recording.specs.Reading.{HeaderAt, item_made, item_seen, LiesFrom, Placed, or_else, sector_fault, entry_fault}

-- the entry of a header
unfoldable pub made : ℕ → ℕ → Flags → List ℕ → List ℕ → Item
made sector sectors flags text content = cond flags.mark (mark text) (item_of sector sectors flags content)

pub made_in : (h : Header) (x content : List ℕ) → HeaderAt h x → content ≡ take (512 + 512 * data_in x - 512) (drop 512 x) → item_made h content ≡ item_in x
unfolding made
made_in h x content e d =
    ap (λ a. made a h.sectors h.flags h.text.now content) e.0
    ∙ ap (λ a. made (sector_in x) a h.flags h.text.now content) e.1
    ∙ ap (λ a. made (sector_in x) (sectors_in x) a h.text.now content) e.2
    ∙ ap (λ a. made (sector_in x) (sectors_in x) (flags_of (bits_in x)) a content) e.3
    ∙ ap (λ a. made (sector_in x) (sectors_in x) (flags_of (bits_in x)) (text_in x) a) d

pub data_sectors : (h : Header) (x : List ℕ) → HeaderAt h x → cond h.flags.discard 0 h.sectors ≡ data_in x
data_sectors h x e = ap (λ n. cond h.flags.discard 0 n) e.1 ∙ ap (λ f. cond f.discard 0 (sectors_in x)) e.2

-- an entry's sector that is taken is whole
pub whole_sector : (k : ℕ) (x : List ℕ) → sector_fault k x ≡ None → 512 ≤ length x
whole_sector k x e = elim (cases_lt (length x) 512) [
  | inl l ↦ let t : sector_fault k x ≡ Some (Incomplete k) = ap (λ b. cond b (Some (Incomplete k)) (cond (malformed x) (Some (Form k)) None)) (lt-ltb (length x) 512 l) in cc
  | inr g ↦ g
]

-- as many sectors as lie behind an entry's sector
pub behind : (n size : ℕ) → 512 ≤ size → n ≤ (size - 512) / 512 → 512 + 512 * n ≤ size
behind n size h k = omega (arith, div-add-mod' (size - 512) 512)

pub not_behind : (n size : ℕ) → (size - 512) / 512 < n → size < 512 + 512 * n
not_behind n size h = omega (arith, div-add-mod' (size - 512) 512, mod_below (size - 512) 512 (omega arith))

pub entry_taken : (k : ℕ) (x : List ℕ) → sector_fault k x ≡ None → 512 + 512 * data_in x ≤ length x → entry_fault k x ≡ None
entry_taken k x e h =
    ap (λ f. or_else f (cond (data_cut x) (Some (Incomplete k)) None)) e
    ∙ ap (λ b. cond b (Some (Incomplete k)) None) (le-ltb (length x) (512 + 512 * data_in x) h)

pub entry_cut : (k : ℕ) (x : List ℕ) → sector_fault k x ≡ None → length x < 512 + 512 * data_in x → entry_fault k x ≡ Some (Incomplete k)
entry_cut k x e h =
    ap (λ f. or_else f (cond (data_cut x) (Some (Incomplete k)) None)) e
    ∙ ap (λ b. cond b (Some (Incomplete k)) None) (lt-ltb (length x) (512 + 512 * data_in x) h)

-- what is the front of a row is its front by its own length
front : (c y : List ℕ) (n : ℕ) → c ≡ take n y → c ≡ take (length c) y
front c y n e = elim (cases_lt (length y) n) [
  | inl l ↦ let w : c ≡ y = e ∙ take_all n y (omega arith) in w ∙ sym (take_all (length c) y (omega (arith, ap length w)))
  | inr g ↦ let w : length c ≡ n = ap length e ∙ length-take-le n y g in e ∙ ap (λ m. take m y) (sym w)
]

written : (m z d : Bool) (a n : ℕ) (f : Flags) (text content : List ℕ) (s : ℕ) (fl fua meta : Bool) (c : List ℕ)
    → write s fl fua meta c ≡ cond m (mark text) (cond z (flush a f.fua f.discard f.metadata) (cond d (discard a n f.flush f.metadata) (write a f.flush f.fua f.metadata content)))
    → c ≡ content
written true z d a n f text content s fl fua meta c e = cc
written false true d a n f text content s fl fua meta c e = cc
written false false true a n f text content s fl fua meta c e = cc
written false false false a n f text content s fl fua meta c e = cc

marked : (m z d : Bool) (a n : ℕ) (f : Flags) (text content : List ℕ) (t : List ℕ)
    → mark t ≡ cond m (mark text) (cond z (flush a f.fua f.discard f.metadata) (cond d (discard a n f.flush f.metadata) (write a f.flush f.fua f.metadata content)))
    → t ≡ text
marked true z d a n f text content t e = cc
marked false true d a n f text content t e = cc
marked false false true a n f text content t e = cc
marked false false false a n f text content t e = cc

-- an entry's bytes are those of the recording at its place
pub placed : (s : List ℕ) (start : ℕ) (e : Entry) → item_seen e ≡ item_in (drop start s) → LiesFrom start e → Placed s e
placed s start (Write sector fl fua meta content place) e l =
    let x = drop start s in
    let w : content.now ≡ take (512 + 512 * data_in x - 512) (drop 512 x) = written (flags_of (bits_in x)).mark (eqb (sectors_in x) 0) (flags_of (bits_in x)).discard (sector_in x) (sectors_in x) (flags_of (bits_in x)) (text_in x) _ sector fl fua meta content.now e in
    front content.now (drop 512 x) _ w ∙ ap (take (length content.now)) (drop-drop 512 start s ∙ ap (λ p. drop p s) (sym l))
placed s start (Discard sector sectors fl meta) e l = tt
placed s start (Flush sector fua dis meta) e l = tt
placed s start (Mark text place) e l =
    let x = drop start s in
    let w : text.now ≡ text_in x = marked (flags_of (bits_in x)).mark (eqb (sectors_in x) 0) (flags_of (bits_in x)).discard (sector_in x) (sectors_in x) (flags_of (bits_in x)) (text_in x) (take (512 + 512 * data_in x - 512) (drop 512 x)) text.now e in
    front text.now (drop 32 x) _ w ∙ ap (take (length text.now)) (drop-drop 32 start s ∙ ap (λ p. drop p s) (sym l))
