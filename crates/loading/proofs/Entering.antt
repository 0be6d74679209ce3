-- One entry at the front of what is left: what is asked of it, in order, and what is read.
use Rattle.std.proofs.Common.{◌≡◌, ℕ, zero, suc, ◌+◌, ◌-◌, ◌*◌, ◌/◌, ◌<◌, ◌≤◌, Bool, true, false, cond, not, ◌&&◌, eqb, ltb, List, [], length, drop, is_some, Some, None, Ok, Err, Option, Result, unwrap_or, sym, refl, ap, ◌∙◌, inl, inr, arith}
use Rattle.std.specs.List.{between}
use Rattle.std.proofs.lemmas.Bool.{cases_Bool, cases_eq, le-ltb, ltb-false, ne_eqb, eq-eqb, and_cases}
use Rattle.std.proofs.lemmas.List.{length-take}
use Rattle.mark.specs.declared.mark.Mark.{Mark}
use Rattle.mark.specs.declared.mark.Mark.TheVariants.{Comment}
use Rattle.mark.specs.Found.{mark_of}
use Rattle.recording.specs.declared.refusal.Refusal as R
use Rattle.recording.specs.declared.refusal.Refusal.TheVariants.{Incomplete, Form, Trailing}
use Rattle.recording.specs.declared.entry.Entry.{Entry}
use Rattle.recording.specs.declared.entry.Flags.{Flags}
use Rattle.recording.specs.declared.entry.Header.{Header}
use Rattle.recording.specs.declared.entry.Reader.{Reader}
use Rattle.recording.specs.Refusals as RC
use Rattle.recording.specs.Items.{Item, write, discard, flush, mark, flags_of, sectors_of, data_of}
use Rattle.recording.specs.Entries.{sector_in, sectors_in, bits_in, text_in, sector_cut, malformed, data_in, data_cut, item_in, rest_of}
use Rattle.recording.specs.Reading.{ahead, next_number, HeaderAt, sector_fault, entry_fault, end_fault, reader_fault, Moved, Stepping, or_else}
use Rattle.recording.proofs.Made.{whole_sector}
use Rattle.recording.proofs.Deciding.{well_formed}
use Rattle.recording.proofs.Remaining.{numbered, moved_ahead}
use Rattle.meaning.specs.Meanings.{mark_in}
use Rattle.meaning.specs.Loads.{entries_from, onwards, unmarked, outside_in}
use Rattle.loading.specs.declared.refusal.Refusal.{Refusal}
use Rattle.loading.specs.declared.refusal.Refusal.TheVariants.{NoMark, Outside, TooMuchData}
use Rattle.loading.specs.Asking.{mark_by, with_mark, asked, answered}
use Rattle.loading.specs.Loading.{code_of, of_entries, remaining}

abbrev Res : Type 0
Res = Result (List Item) (ℕ × ℕ)

-- THE DEFINITION, one entry at a time.
module _ (n k used count : ℕ) (x : List ℕ) where
  abbrev rest : Result (List Item) (ℕ × ℕ)
  rest = onwards (item_in x) (entries_from (n - 1) (k + 1) (used + data_in x) count (rest_of x))

  abbrev tail4 : Result (List Item) (ℕ × ℕ)
  tail4 = cond (data_cut x) (Err (7, k)) rest

  abbrev tail1 : Result (List Item) (ℕ × ℕ)
  tail1 = cond (unmarked x) (Err (10, k)) (cond (outside_in x count) (Err (9, k)) (cond (ltb 96 (used + data_in x)) (Err (11, k)) tail4))

one : (n k used count : ℕ) (x : List ℕ) → 0 < n → entries_from n k used count x ≡ cond (sector_cut x) (Err (7, k)) (cond (malformed x) (Err (8, k)) (tail1 n k used count x))
unfolding entries_from
one zero k used count x h = absurd (omega arith)
one (suc n) k used count x h =
    let e : n ≡ suc n - 1 = omega arith in
    ap (λ m. cond (sector_cut x) (Err (7, k)) (cond (malformed x) (Err (8, k)) (cond (unmarked x) (Err (10, k)) (cond (outside_in x count) (Err (9, k)) (cond (ltb 96 (used + data_in x)) (Err (11, k)) (cond (data_cut x) (Err (7, k)) (onwards (item_in x) (entries_from m (k + 1) (used + data_in x) count (rest_of x))))))))) e

none_left : (n k used count : ℕ) (x : List ℕ) → n ≡ 0 → entries_from n k used count x ≡ cond (ltb 0 (length x)) (Err (12, 0)) (Ok [])
unfolding entries_from
none_left zero k used count x h = refl
none_left (suc n) k used count x h = absurd (omega arith)

-- at the end
pub read_end : (r : Reader) (used count : ℕ) → r.left ≡ 0 → ahead r ≡ [] → remaining r used count ≡ Ok []
read_end r used count z e = none_left r.left (next_number r) used count (ahead r) z ∙ ap (λ y. cond (ltb 0 (length y)) (Err (12, 0)) (Ok [])) e

-- a sector that is declined
by_sector : (n k used count : ℕ) (x : List ℕ) (f : R.Refusal) → 0 < n → sector_fault k x ≡ Some f → entries_from n k used count x ≡ Err (RC.code_of f)
by_sector n k used count x f h e = elim (cases_Bool (sector_cut x)) [
  | inl t ↦
      let q : Incomplete k ≡ f = let w = ap (λ b. cond b (Some (Incomplete k)) (cond (malformed x) (Some (Form k)) None)) t in cc in
      one n k used count x h ∙ ap (λ b. cond b (Err (7, k)) (cond (malformed x) (Err (8, k)) (tail1 n k used count x))) t ∙ ap (λ g. Err (RC.code_of g)) q
  | inr c ↦ elim (cases_Bool (malformed x)) [
    | inl t ↦
        let w = ap (λ b. cond b (Some (Incomplete k)) (cond (malformed x) (Some (Form k)) None)) c in
        let v = ap (λ b. cond b (Some (Form k)) None) t in
        let q : Form k ≡ f = cc in
        one n k used count x h ∙ ap (λ b. cond b (Err (7, k)) (cond (malformed x) (Err (8, k)) (tail1 n k used count x))) c ∙ ap (λ b. cond b (Err (8, k)) (tail1 n k used count x)) t ∙ ap (λ g. Err (RC.code_of g)) q
    | inr m ↦
        let w = ap (λ b. cond b (Some (Incomplete k)) (cond (malformed x) (Some (Form k)) None)) c in
        let v = ap (λ b. cond b (Some (Form k)) None) m in
        cc
  ]
]

pub header_declined : (r : Reader) (used count : ℕ) (f : R.Refusal) → cond (eqb r.left 0) (end_fault (ahead r)) (sector_fault (next_number r) (ahead r)) ≡ Some f → of_entries (remaining r used count) ≡ Some (RC.code_of f)
header_declined r used count f e = elim (cases_eq r.left 0) [
  | inl z ↦
      let x = ahead r in
      let d : end_fault x ≡ Some f = sym (ap (λ b. cond b (end_fault x) (sector_fault (next_number r) x)) (eq-eqb r.left 0 z)) ∙ e in
      elim (cases_Bool (ltb 0 (length x))) [
        | inl t ↦
            let q : Trailing ≡ f = let w = ap (λ b. cond b (Some Trailing) None) t in cc in
            ap of_entries (none_left r.left (next_number r) used count x z ∙ ap (λ b. cond b (Err (12, 0)) (Ok [])) t) ∙ ap (λ g. Some (RC.code_of g)) q
        | inr t ↦ let w = ap (λ b. cond b (Some Trailing) None) t in cc
      ]
  | inr ne ↦
      let d : sector_fault (next_number r) (ahead r) ≡ Some f = sym (ap (λ b. cond b (end_fault (ahead r)) (sector_fault (next_number r) (ahead r))) (ne_eqb r.left 0 ne)) ∙ e in
      ap of_entries (by_sector r.left (next_number r) used count (ahead r) f (omega arith) d)
]

-- a sector that is taken
past_sector : (n k used count : ℕ) (x : List ℕ) → 0 < n → sector_fault k x ≡ None → entries_from n k used count x ≡ tail1 n k used count x
past_sector n k used count x h e =
    let w = whole_sector k x e in
    one n k used count x h
    ∙ ap (λ b. cond b (Err (7, k)) (cond (malformed x) (Err (8, k)) (tail1 n k used count x))) (le-ltb (length x) 512 w)
    ∙ ap (λ b. cond b (Err (8, k)) (tail1 n k used count x)) (well_formed k x e)

-- THE QUESTIONS. What an answer leaves of the rest.
after : Result Mark Refusal → Res → Res
after (Ok m) t = t
after (Err f) t = Err (unwrap_or (code_of f) (0, 0))

-- the answer by truth values
by_mark : Option Mark → (out much : Bool) → ℕ → Result Mark Refusal
by_mark None out much k = Err (NoMark k)
by_mark (Some m) out much k = cond out (Err (Outside k)) (cond much (Err (TooMuchData k)) (Ok m))

questions : (isMark : Bool) (o : Option Mark) (out much : Bool) (k : ℕ) (t : Res) →
    cond (isMark && not (is_some o)) (Err (10, k)) (cond out (Err (9, k)) (cond much (Err (11, k)) t)) ≡ after (by_mark (cond isMark o (Some Comment)) out much k) t
unfolding after by_mark
questions false o true much k t = refl
questions false o false true k t = refl
questions false o false false k t = refl
questions true None out much k t = refl
questions true (Some m) true much k t = refl
questions true (Some m) false true k t = refl
questions true (Some m) false false k t = refl

asked_is : (o : Option Mark) (sector sectors more k used count : ℕ) → with_mark o sector sectors more k used count ≡ by_mark o (ltb 0 sectors && ltb count (sector + sectors)) (ltb 96 (used + more)) k
unfolding by_mark
asked_is None sector sectors more k used count = refl
asked_is (Some m) sector sectors more k used count = refl

-- the answer to the entry at the front of x
abbrev pub asked_of : List ℕ → (k used count : ℕ) → Result Mark Refusal
asked_of x k used count = asked (sector_in x) (sectors_in x) (flags_of (bits_in x)) (text_in x) k used count

asked_tail : (n k used count : ℕ) (x : List ℕ) → tail1 n k used count x ≡ after (asked_of x k used count) (tail4 n k used count x)
asked_tail n k used count x =
    questions (flags_of (bits_in x)).mark (mark_of (text_in x)) (outside_in x count) (ltb 96 (used + data_in x)) k (tail4 n k used count x)
    ∙ ap (λ a. after a (tail4 n k used count x)) (sym (asked_is (mark_by (flags_of (bits_in x)).mark (text_in x)) (sector_in x) (sectors_in x) (data_in x) k used count))

header_asked : (h : Header) (x : List ℕ) (k used count : ℕ) → HeaderAt h x → answered h k used count ≡ asked_of x k used count
header_asked h x k used count e =
    ap (λ a. asked a h.sectors h.flags h.text.now k used count) e.0
    ∙ ap (λ a. asked (sector_in x) a h.flags h.text.now k used count) e.1
    ∙ ap (λ a. asked (sector_in x) (sectors_in x) a h.text.now k used count) e.2
    ∙ ap (λ a. asked (sector_in x) (sectors_in x) (flags_of (bits_in x)) a k used count) e.3

-- no answer is want of memory
never_memory : (o : Option Mark) (sector sectors more k used count : ℕ) (f : Refusal) → Err f ≡ with_mark o sector sectors more k used count → Some (unwrap_or (code_of f) (0, 0)) ≡ code_of f
never_memory None sector sectors more k used count f e = let q : f ≡ NoMark k = cc in ap (λ g. Some (unwrap_or (code_of g) (0, 0))) q ∙ sym (ap code_of q)
never_memory (Some m) sector sectors more k used count f e = go (ltb 0 sectors && ltb count (sector + sectors)) (ltb 96 (used + more)) e
  where
    go : (out much : Bool) → Err f ≡ cond out (Err (Outside k)) (cond much (Err (TooMuchData k)) (Ok m)) → Some (unwrap_or (code_of f) (0, 0)) ≡ code_of f
    go true much w = let q : f ≡ Outside k = cc in ap (λ g. Some (unwrap_or (code_of g) (0, 0))) q ∙ sym (ap code_of q)
    go false true w = let q : f ≡ TooMuchData k = cc in ap (λ g. Some (unwrap_or (code_of g) (0, 0))) q ∙ sym (ap code_of q)
    go false false w = cc

pub ask_declined : (r : Reader) (h : Header) (k used count : ℕ) (f : Refusal) → 0 < r.left → sector_fault (next_number r) (ahead r) ≡ None → HeaderAt h (ahead r) → k ≡ next_number r → Err f ≡ answered h k used count → of_entries (remaining r used count) ≡ code_of f
unfolding after
ask_declined r h k used count f l s a ek e =
    let x = ahead r in
    let n = r.left in
    let d : Err f ≡ asked_of x (next_number r) used count = e ∙ ap (λ j. answered h j used count) ek ∙ header_asked h x (next_number r) used count a in
    ap of_entries (past_sector n (next_number r) used count x l s ∙ asked_tail n (next_number r) used count x ∙ ap (λ q. after q (tail4 n (next_number r) used count x)) (sym d))
    ∙ never_memory (mark_by (flags_of (bits_in x)).mark (text_in x)) (sector_in x) (sectors_in x) (data_in x) (next_number r) used count f d

-- what an accepting answer says
pub record Accepted (x : List ℕ) (used count : ℕ) (m : Mark) : Type 0 where
  pub marked : mark_by (flags_of (bits_in x)).mark (text_in x) ≡ Some m
  pub inside : outside_in x count ≡ false
  pub few : used + data_in x ≤ 96

accepting : (o : Option Mark) (sector sectors more k used count : ℕ) (m : Mark) → Ok m ≡ with_mark o sector sectors more k used count → (o ≡ Some m) × (ltb 0 sectors && ltb count (sector + sectors) ≡ false) × (ltb 96 (used + more) ≡ false)
accepting None sector sectors more k used count m e = cc
accepting (Some q) sector sectors more k used count m e = go (ltb 0 sectors && ltb count (sector + sectors)) (ltb 96 (used + more)) e
  where
    go : (out much : Bool) → Ok m ≡ cond out (Err (Outside k)) (cond much (Err (TooMuchData k)) (Ok q)) → (Some q ≡ Some m) × (out ≡ false) × (much ≡ false)
    go true much w = cc
    go false true w = cc
    go false false w = (cc, refl, refl)

pub ask_accepted : (x : List ℕ) (h : Header) (k used count : ℕ) (m : Mark) → HeaderAt h x → Ok m ≡ answered h k used count → Accepted x used count m
ask_accepted x h k used count m a e =
    let d = accepting (mark_by (flags_of (bits_in x)).mark (text_in x)) (sector_in x) (sectors_in x) (data_in x) k used count m (e ∙ header_asked h x k used count a) in
    record { marked = d.0; inside = d.1; few = ltb-false 96 (used + data_in x) d.2 }

-- THE DATA. Where they are not complete, the entry is declined by 7.
pub next_declined : (r : Reader) (used count : ℕ) (m : Mark) (f : R.Refusal) → 0 < r.left → sector_fault (next_number r) (ahead r) ≡ None → Ok m ≡ asked_of (ahead r) (next_number r) used count → reader_fault r ≡ Some f → of_entries (remaining r used count) ≡ Some (RC.code_of f)
unfolding after
next_declined r used count m f l s a e =
    let x = ahead r in
    let n = r.left in
    let k = next_number r in
    let d : cond (data_cut x) (Some (Incomplete k)) None ≡ Some f =
    sym (ap (λ o. or_else o (cond (data_cut x) (Some (Incomplete k)) None)) s) ∙ sym (ap (λ b. cond b (end_fault x) (entry_fault k x)) (ne_eqb n 0 (λ z. omega arith))) ∙ e in
    elim (cases_Bool (data_cut x)) [
      | inl t ↦
          let q : Incomplete k ≡ f = let w = ap (λ b. cond b (Some (Incomplete k)) None) t in cc in
          ap of_entries (past_sector n k used count x l s ∙ asked_tail n k used count x ∙ ap (λ q. after q (tail4 n k used count x)) (sym a) ∙ ap (λ b. cond b (Err (7, k)) (rest n k used count x)) t) ∙ ap (λ g. Some (RC.code_of g)) q
      | inr t ↦ let w = ap (λ b. cond b (Some (Incomplete k)) None) t in cc
    ]

-- where the data are complete
complete : (r : Reader) → 0 < r.left → sector_fault (next_number r) (ahead r) ≡ None → reader_fault r ≡ None → data_cut (ahead r) ≡ false
complete r l s e =
    let x = ahead r in
    let k = next_number r in
    let d : cond (data_cut x) (Some (Incomplete k)) None ≡ None =
    sym (ap (λ o. or_else o (cond (data_cut x) (Some (Incomplete k)) None)) s) ∙ sym (ap (λ b. cond b (end_fault x) (entry_fault k x)) (ne_eqb r.left 0 (λ z. omega arith))) ∙ e in
    elim (cases_Bool (data_cut x)) [
      | inl t ↦ let w = ap (λ b. cond b (Some (Incomplete k)) None) t in cc
      | inr t ↦ t
    ]

pub entry_read : (r t : Reader) (used count : ℕ) (m : Mark) → 0 < r.left → sector_fault (next_number r) (ahead r) ≡ None → Ok m ≡ asked_of (ahead r) (next_number r) used count → reader_fault r ≡ None → Moved r t →
    remaining r used count ≡ onwards (item_in (ahead r)) (remaining t (used + data_in (ahead r)) count)
unfolding after
entry_read r t used count m l s a e v =
    let x = ahead r in
    let n = r.left in
    let k = next_number r in
    past_sector n k used count x l s ∙ asked_tail n k used count x ∙ ap (λ q. after q (tail4 n k used count x)) (sym a)
    ∙ ap (λ b. cond b (Err (7, k)) (rest n k used count x)) (complete r l s e)
    ∙ ap (λ i. onwards (item_in x) (entries_from i (k + 1) (used + data_in x) count (rest_of x))) (sym v.left)
    ∙ ap (λ j. onwards (item_in x) (entries_from t.left j (used + data_in x) count (rest_of x))) (numbered r t l v)
    ∙ ap (λ y. onwards (item_in x) (entries_from t.left (next_number t) (used + data_in x) count y)) (moved_ahead r t v)

-- THE MARK of the entry.
marked_item : (isMark z d : Bool) (sector sectors : ℕ) (f : Flags) (text content : List ℕ) →
    mark_in (cond isMark (mark text) (cond z (flush sector f.fua f.discard f.metadata) (cond d (discard sector sectors f.flush f.metadata) (write sector f.flush f.fua f.metadata content)))) ≡ cond isMark (unwrap_or (mark_of text) Comment) Comment
marked_item true z d sector sectors f text content = refl
marked_item false true d sector sectors f text content = refl
marked_item false false true sector sectors f text content = refl
marked_item false false false sector sectors f text content = refl

by_value : (isMark : Bool) (o : Option Mark) (m : Mark) → cond isMark o (Some Comment) ≡ Some m → m ≡ cond isMark (unwrap_or o Comment) Comment
by_value true None m e = cc
by_value true (Some q) m e = cc
by_value false o m e = cc

pub mark_read : (x : List ℕ) (used count : ℕ) (m : Mark) → Accepted x used count m → m ≡ mark_in (item_in x)
mark_read x used count m a =
    by_value (flags_of (bits_in x)).mark (mark_of (text_in x)) m a.marked
    ∙ sym (marked_item (flags_of (bits_in x)).mark (eqb (sectors_in x) 0) (flags_of (bits_in x)).discard (sector_in x) (sectors_in x) (flags_of (bits_in x)) (text_in x) (between 512 (512 + 512 * data_in x) x))

-- HOW MUCH it brings: its data are no more than were asked for, and its sectors no more than the image has.
brought : (isMark z d : Bool) (sector sectors : ℕ) (f : Flags) (text content : List ℕ) (n : ℕ) → length content / 512 ≤ n →
    length (data_of (cond isMark (mark text) (cond z (flush sector f.fua f.discard f.metadata) (cond d (discard sector sectors f.flush f.metadata) (write sector f.flush f.fua f.metadata content))))) / 512 ≤ n
brought true z d sector sectors f text content n h = omega arith
brought false true d sector sectors f text content n h = omega arith
brought false false true sector sectors f text content n h = omega arith
brought false false false sector sectors f text content n h = h

touched : (isMark z d : Bool) (sector sectors : ℕ) (f : Flags) (text content : List ℕ) (n : ℕ) → sectors ≤ n → length content / 512 ≤ n →
    sectors_of (cond isMark (mark text) (cond z (flush sector f.fua f.discard f.metadata) (cond d (discard sector sectors f.flush f.metadata) (write sector f.flush f.fua f.metadata content)))) ≤ n
touched true z d sector sectors f text content n h l = omega arith
touched false true d sector sectors f text content n h l = omega arith
touched false false true sector sectors f text content n h l = h
touched false false false sector sectors f text content n h l = l

content_few : (x : List ℕ) → length (between 512 (512 + 512 * data_in x) x) / 512 ≤ data_in x
content_few x = let l = length-take (512 + 512 * data_in x - 512) (drop 512 x) in omega arith

pub data_few : (x : List ℕ) → length (data_of (item_in x)) / 512 ≤ data_in x
data_few x =
    brought (flags_of (bits_in x)).mark (eqb (sectors_in x) 0) (flags_of (bits_in x)).discard (sector_in x) (sectors_in x) (flags_of (bits_in x)) (text_in x) (between 512 (512 + 512 * data_in x) x) (data_in x) (content_few x)

pub sectors_few : (x : List ℕ) (used count : ℕ) (m : Mark) → Accepted x used count m → sectors_of (item_in x) ≤ count
sectors_few x used count m a =
    touched (flags_of (bits_in x)).mark (eqb (sectors_in x) 0) (flags_of (bits_in x)).discard (sector_in x) (sectors_in x) (flags_of (bits_in x)) (text_in x) (between 512 (512 + 512 * data_in x) x) count inside (let l = content_few x in let d = fewer (flags_of (bits_in x)).discard in omega arith)
  where
    inside : sectors_in x ≤ count
    inside = elim (and_cases (ltb 0 (sectors_in x)) (ltb count (sector_in x + sectors_in x)) a.inside) [
      | inl z ↦ let l = ltb-false 0 (sectors_in x) z in omega arith
      | inr z ↦ let l = ltb-false count (sector_in x + sectors_in x) z in omega arith
    ]

    fewer : (b : Bool) → cond b 0 (sectors_in x) ≤ count
    fewer true = omega arith
    fewer false = inside

-- where an entry is left, the reader gives one
pub given : (r t : Reader) (o : Option Entry) → 0 < r.left → Stepping r t (Ok o) → is_some o ≡ true
given r t None l p = let z = p.0 in absurd (omega arith)
given r t (Some e) l p = refl

pub asked_same : (r : Reader) (h : Header) (k used count : ℕ) (m : Mark) → HeaderAt h (ahead r) → k ≡ next_number r → Ok m ≡ answered h k used count → Ok m ≡ asked_of (ahead r) (next_number r) used count
asked_same r h k used count m a ek e = e ∙ ap (λ j. answered h j used count) ek ∙ header_asked h (ahead r) (next_number r) used count a
