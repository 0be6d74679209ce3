-- What is read of a recording, against its layout.
use Rattle.std.proofs.Common.{◌≡◌, ℕ, zero, suc, ◌+◌, ◌*◌, ◌/◌, ◌<◌, ◌≤◌, Bool, true, false, cond, not, ◌&&◌, ltb, List, [], ◌∷◌, length, drop, Some, None, Ok, Err, is_some, Option, Result, sym, refl, ap, ◌∙◌, subst, inl, inr, arith}
use Rattle.std.specs.List.{AllByRecursion, range_with_len}
use Rattle.std.proofs.lemmas.Bool.{and_left, and_right, le-ltb, lt-ltb, ltb-false, not-false, both_ways}
use Rattle.image.specs.Sectors.{Bytes, Image}
use Rattle.tree.specs.declared.node.Node.{Node}
use Rattle.mark.specs.Found.{mark_of}
use Rattle.recording.specs.declared.refusal.Refusal.{Refusal}
use Rattle.recording.specs.declared.refusal.Refusal.TheVariants.{Incomplete, Form, Trailing}
use Rattle.recording.specs.Items.{Item, write, discard, flush, mark, flags_of, sector_of, sectors_of, text_of, data_of, Formed}
use Rattle.recording.specs.Layout.{head_layout, entry_layout, entries_layout, layout, Within}
use Rattle.recording.specs.Heads.{count_in}
use Rattle.recording.specs.Entries.{sector_in, sectors_in, bits_in, text_in, sector_cut, malformed, data_in, data_cut, item_in, rest_of}
use Rattle.recording.specs.Reading.{entry_fault, end_fault, open_fault, or_else}
use Rattle.recording.specs.Recorded.{unless, prepend, recorded_from, recorded}
use Rattle.recording.proofs.Giving.{flags_for, EntryReads, entry_reads}
use Rattle.recording.proofs.Heading.{HeadReads, head_reads}
use Rattle.recording.proofs.Wholly.{no_reason, whole_taken, whole_given}
use Rattle.filesystem.specs.Outcomes.{Outcome, a_tree}
use Rattle.law.specs.Subject.{Recording, takes, declines}
use Rattle.meaning.specs.Meanings.{meaning_of}
use Rattle.meaning.specs.Loads.{unmarked, outside_in, onwards, entries_from, point_fault, first_fault, by_points, by_entries, by_head, by_base, load_of}
use Rattle.meaning.specs.Taken.{Spelled, Inside, data_sectors, Loadable}
use Rattle.meaning.specs.Sounding.{Takes}
use Rattle.meaning.proofs.Pointing.{first_none, all_none, fits, no_fault}

-- an answer behind a condition that would decline
behind : (b : Bool) (r : ℕ × ℕ) (o : Result (List Item) (ℕ × ℕ)) (es : List Item) → cond b (Err r) o ≡ Ok es → (b ≡ false) × (o ≡ Ok es)
behind true r o es e = cc
behind false r o es e = (refl, e)

beyond : (b : Bool) (r : ℕ × ℕ) (o : Result (List Item) (ℕ × ℕ)) → b ≡ false → cond b (Err r) o ≡ o
beyond true r o e = cc
beyond false r o e = refl

with_rest : (e : Item) (o : Result (List Item) (ℕ × ℕ)) (es : List Item) → onwards e o ≡ Ok es → (fs : List Item) × (o ≡ Ok fs) × (es ≡ e ∷ fs)
with_rest e (Ok fs) es q = (fs, refl, cc)
with_rest e (Err r) es q = cc

-- nothing is found against the entry at the front of x
pub record Clear (k used count : ℕ) (x : List ℕ) : Type 0 where
  pub whole : sector_cut x ≡ false
  pub formed : malformed x ≡ false
  pub marked : unmarked x ≡ false
  pub inside : outside_in x count ≡ false
  pub few : ltb 96 (used + data_in x) ≡ false
  pub complete : data_cut x ≡ false

module _ (n k used count : ℕ) (x : List ℕ) where
  abbrev further : Result (List Item) (ℕ × ℕ)
  further = entries_from n (k + 1) (used + data_in x) count (rest_of x)

  -- one entry that is taken, and the others
  one_taken : (es : List Item) → entries_from (suc n) k used count x ≡ Ok es → Clear k used count x × (fs : List Item) × (further ≡ Ok fs) × (es ≡ item_in x ∷ fs)
  unfolding entries_from
  one_taken es e =
      let a5 = cond (data_cut x) (Err (7, k)) (onwards (item_in x) further) in
      let a4 = cond (ltb 96 (used + data_in x)) (Err (11, k)) a5 in
      let a3 = cond (outside_in x count) (Err (9, k)) a4 in
      let a2 = cond (unmarked x) (Err (10, k)) a3 in
      let a1 = cond (malformed x) (Err (8, k)) a2 in
      let p1 = behind (sector_cut x) (7, k) a1 es e in
      let p2 = behind (malformed x) (8, k) a2 es p1.1 in
      let p3 = behind (unmarked x) (10, k) a3 es p2.1 in
      let p4 = behind (outside_in x count) (9, k) a4 es p3.1 in
      let p5 = behind (ltb 96 (used + data_in x)) (11, k) a5 es p4.1 in
      let p6 = behind (data_cut x) (7, k) (onwards (item_in x) further) es p5.1 in
      let w = with_rest (item_in x) further es p6.1 in
      (record { whole = p1.0; formed = p2.0; marked = p3.0; inside = p4.0; few = p5.0; complete = p6.0 }, w.0, w.1, w.2)

  one_given : Clear k used count x → entries_from (suc n) k used count x ≡ onwards (item_in x) further
  unfolding entries_from
  one_given c =
      let a5 = cond (data_cut x) (Err (7, k)) (onwards (item_in x) further) in
      let a4 = cond (ltb 96 (used + data_in x)) (Err (11, k)) a5 in
      let a3 = cond (outside_in x count) (Err (9, k)) a4 in
      let a2 = cond (unmarked x) (Err (10, k)) a3 in
      let a1 = cond (malformed x) (Err (8, k)) a2 in
      beyond (sector_cut x) (7, k) a1 c.whole
      ∙ beyond (malformed x) (8, k) a2 c.formed
      ∙ beyond (unmarked x) (10, k) a3 c.marked
      ∙ beyond (outside_in x count) (9, k) a4 c.inside
      ∙ beyond (ltb 96 (used + data_in x)) (11, k) a5 c.few
      ∙ beyond (data_cut x) (7, k) (onwards (item_in x) further) c.complete

  -- no more is asked of an entry by the rules of recordings
  no_fault_in : Clear k used count x → entry_fault k x ≡ None
  no_fault_in c =
      ap (λ b. or_else (cond b (Some (Incomplete k)) (cond (malformed x) (Some (Form k)) None)) (cond (data_cut x) (Some (Incomplete k)) None)) c.whole
      ∙ ap (λ b. or_else (cond b (Some (Form k)) None) (cond (data_cut x) (Some (Incomplete k)) None)) c.formed
      ∙ ap (λ b. cond b (Some (Incomplete k)) None) c.complete

-- what is taken is what the recording's own reading takes
pub entries_recorded : (n k used count : ℕ) (x : List ℕ) (es : List Item) → entries_from n k used count x ≡ Ok es → recorded_from n k x ≡ Ok es
unfolding entries_from recorded_from
entries_recorded zero k used count x es e =
    let p = behind (ltb 0 (length x)) (12, 0) (Ok []) es e in
    let q : [] ≡ es = let t = p.1 in cc in
    ap (λ b. unless (cond b (Some Trailing) None) (Ok [])) p.0 ∙ ap (λ fs. unless None (Ok fs)) q
entries_recorded (suc n) k used count x es e =
    let p = one_taken n k used count x es e in
    let i = entries_recorded n (k + 1) (used + data_in x) count (rest_of x) p.1 p.2 in
    ap (λ o. unless o (prepend (item_in x) (recorded_from n (k + 1) (rest_of x)))) (no_fault_in n k used count x p.0)
    ∙ ap (prepend (item_in x)) i
    ∙ ap (λ fs. unless None (Ok fs)) (sym p.3)

-- AN ENTRY THAT IS LAID OUT at the front of x: what is asked of x is what the rules ask of the entry.
module _ (e : Item) (f : Formed e) (r x : List ℕ) (q : EntryReads e r x) where
  marked_is : unmarked x ≡ (flags_for e).mark && not (is_some (mark_of (text_of e)))
  marked_is = ap (λ g. g.mark && not (is_some (mark_of (text_in x)))) q.flags ∙ ap (λ t. (flags_for e).mark && not (is_some (mark_of t))) q.text

  outside_is : (count : ℕ) → outside_in x count ≡ ltb 0 (sectors_of e) && ltb count (sector_of e + sectors_of e)
  outside_is count = ap (λ n. ltb 0 (sectors_in x) && ltb count (n + sectors_in x)) q.sector ∙ ap (λ n. ltb 0 n && ltb count (sector_of e + n)) q.sectors

  data_is : data_in x ≡ length (data_of e) / 512
  data_is = let h = q.filled in omega arith

touching : (sector sectors count : ℕ) → 1 ≤ sectors → ltb 0 sectors && ltb count (sector + sectors) ≡ false → sector + sectors ≤ count
touching sector sectors count l e = ltb-false count (sector + sectors) (ap (λ b. b && ltb count (sector + sectors)) (sym (lt-ltb 0 sectors l)) ∙ e)

some_sectors : (content : List ℕ) (n : ℕ) → 1 ≤ n → length content ≡ 512 * n → 1 ≤ length content / 512
some_sectors content n l e = omega arith

spelled_from : (e : Item) → (flags_for e).mark && not (is_some (mark_of (text_of e))) ≡ false → Spelled e
unfolding flags_for
spelled_from (write sector fl fua meta content) h = tt
spelled_from (discard sector sectors fl meta) h = tt
spelled_from (flush sector fua dis meta) h = tt
spelled_from (mark text) h = not-false (is_some (mark_of text)) h

spelled_gives : (e : Item) → Spelled e → (flags_for e).mark && not (is_some (mark_of (text_of e))) ≡ false
unfolding flags_for
spelled_gives (write sector fl fua meta content) h = refl
spelled_gives (discard sector sectors fl meta) h = refl
spelled_gives (flush sector fua dis meta) h = refl
spelled_gives (mark text) h = ap not h

inside_from : (e : Item) (count : ℕ) → Formed e → ltb 0 (sectors_of e) && ltb count (sector_of e + sectors_of e) ≡ false → Inside count e
inside_from (write sector fl fua meta content) count f h = touching sector (length content / 512) count (some_sectors content f.1.0 f.1.1 f.1.3) h
inside_from (discard sector sectors fl meta) count f h = touching sector sectors count f.1 h
inside_from (flush sector fua dis meta) count f h = tt
inside_from (mark text) count f h = tt

inside_gives : (e : Item) (count : ℕ) → Inside count e → ltb 0 (sectors_of e) && ltb count (sector_of e + sectors_of e) ≡ false
inside_gives (write sector fl fua meta content) count h = and_right (ltb 0 (length content / 512)) (ltb count (sector + length content / 512)) (le-ltb count (sector + length content / 512) h)
inside_gives (discard sector sectors fl meta) count h = and_right (ltb 0 sectors) (ltb count (sector + sectors)) (le-ltb count (sector + sectors) h)
inside_gives (flush sector fua dis meta) count h = refl
inside_gives (mark text) count h = refl

-- THE ENTRIES. Those that are taken keep the rules of a load.
pub record Kept (used count : ℕ) (es : List Item) : Type 0 where
  pub spelled : AllByRecursion Spelled es
  pub inside : AllByRecursion (Inside count) es
  pub few : used + data_sectors es ≤ 96

pub entries_kept : (es : List Item) (k used count : ℕ) → AllByRecursion Formed es → used ≤ 96 → entries_from (length es) k used count (entries_layout es) ≡ Ok es → Kept used count es
entries_kept [] k used count a u h = record { spelled = tt; inside = tt; few = omega arith }
entries_kept (e ∷ es) k used count a u h =
    let x = entries_layout (e ∷ es) in
    let q = entry_reads e a.0 (entries_layout es) x refl in
    let p = one_taken (length es) k used count x (e ∷ es) h in
    let c = p.0 in
    let same : es ≡ p.1 = let t = p.3 in cc in
    let d = data_is e a.0 (entries_layout es) x q in
    let few : used + data_in x ≤ 96 = ltb-false 96 (used + data_in x) c.few in
    let P : List ℕ → Type 0 = λ y. entries_from (length es) (k + 1) (used + data_in x) count y ≡ Ok es in
    let Q : List Item → Type 0 = λ fs. entries_from (length es) (k + 1) (used + data_in x) count (rest_of x) ≡ Ok fs in
    let i = entries_kept es (k + 1) (used + data_in x) count a.1 few (subst P q.rest (subst Q (sym same) p.2)) in
    record {
      spelled = (spelled_from e (sym (marked_is e a.0 (entries_layout es) x q) ∙ c.marked), i.spelled);
      inside = (inside_from e count a.0 (sym (outside_is e a.0 (entries_layout es) x q count) ∙ c.inside), i.inside);
      few = let j = i.few in omega arith;
    }

-- and those that keep them are taken
pub entries_given : (es : List Item) (k used count : ℕ) → AllByRecursion Formed es → Kept used count es → entries_from (length es) k used count (entries_layout es) ≡ Ok es
unfolding entries_from
entries_given [] k used count a h = refl
entries_given (e ∷ es) k used count a h =
    let x = entries_layout (e ∷ es) in
    let q = entry_reads e a.0 (entries_layout es) x refl in
    let d = data_is e a.0 (entries_layout es) x q in
    let few = h.few in
    let c : Clear k used count x = record {
      whole = le-ltb (length x) 512 q.whole;
      formed = q.formed;
      marked = marked_is e a.0 (entries_layout es) x q ∙ spelled_gives e h.spelled.0;
      inside = outside_is e a.0 (entries_layout es) x q count ∙ inside_gives e count h.inside.0;
      few = le-ltb 96 (used + data_in x) (omega arith);
      complete = le-ltb (length x) (512 + 512 * data_in x) q.complete;
    } in
    let i = entries_given es (k + 1) (used + data_in x) count a.1 (record { spelled = h.spelled.1; inside = h.inside.1; few = omega arith }) in
    one_given (length es) k used count x c
    ∙ ap (λ o. onwards o (entries_from (length es) (k + 1) (used + data_in x) count (rest_of x))) q.item
    ∙ ap (λ y. onwards e (entries_from (length es) (k + 1) (used + data_in x) count y)) q.rest
    ∙ ap (onwards e) i

-- THE WHOLE: what load takes is the layout of loadable entries
pub layout_taken : (least : ℕ) (outcome : Image → Outcome) (base : Image) (bytes : List ℕ) (R : Recording) → Bytes bytes → Takes least outcome base bytes R
    → (tree : List Node) × (items : List Item) × Loadable least outcome base tree items × (bytes ≡ layout items) × (R ≡ meaning_of outcome base tree items)
unfolding recorded
layout_taken least outcome base bytes R bs t =
    let n = count_in bytes in
    let x = drop 512 bytes in
    let r = entries_recorded n 1 0 (length base) x t.items t.read in
    let whole : recorded bytes ≡ Ok t.items = ap (λ o. unless o (recorded_from n 1 x)) t.head ∙ r in
    let w = whole_taken bytes t.items bs whole in
    let h = head_reads (length t.items) (entries_layout t.items) (let l = w.0.0 in omega arith) bytes w.1 in
    let P : ℕ → Type 0 = λ m. entries_from m 1 0 (length base) (drop 512 bytes) ≡ Ok t.items in
    let Q : List ℕ → Type 0 = λ y. entries_from (length t.items) 1 0 (length base) y ≡ Ok t.items in
    let k = entries_kept t.items 1 0 (length base) w.0.1 (omega arith) (subst Q h.rest (subst P (sym w.2) t.read)) in (
      t.nodes,
      t.items,
      record {
        large = ltb-false (length base) least t.large;
        recovers = t.tree;
        within = w.0;
        spelled = k.spelled;
        inside = k.inside;
        few = let f = k.few in omega arith;
        points = λ p l. fits base t.nodes t.items p (all_none (point_fault base t.nodes t.items) 0 (length t.items + 1) t.points p (omega arith) (omega arith));
      },
      w.1,
      t.meaning,
    )

-- and the layout of loadable entries is taken with their meaning
pub layout_given : (least : ℕ) (outcome : Image → Outcome) (base : Image) (tree : List Node) (items : List Item) → Loadable least outcome base tree items
    → load_of least outcome base (layout items) ≡ takes (meaning_of outcome base tree items)
unfolding load_of recorded
layout_given least outcome base tree items L =
    let s = layout items in
    let most = L.within.0 in
    let few = L.few in
    let h = head_reads (length items) (entries_layout items) (omega arith) s refl in
    let o = (no_reason (open_fault s) (recorded_from (count_in s) 1 (drop 512 s)) items (whole_given items L.within)).0 in
    let k = entries_given items 1 0 (length base) L.within.1 (record { spelled = L.spelled; inside = L.inside; few = omega arith }) in
    ap (λ b. cond b (declines 3 0) (by_base outcome base s (outcome base))) (le-ltb (length base) least L.large)
    ∙ ap (by_base outcome base s) L.recovers
    ∙ ap (by_head outcome base tree s) o
    ∙ ap (λ n. by_entries outcome base tree (entries_from n 1 0 (length base) (drop 512 s))) h.count
    ∙ ap (λ y. by_entries outcome base tree (entries_from (length items) 1 0 (length base) y)) h.rest
    ∙ ap (by_entries outcome base tree) k
    ∙ ap (λ c. by_points c (takes (meaning_of outcome base tree items))) (first_none (point_fault base tree items) 0 (length items + 1) (λ p l b. no_fault base tree items p (L.points p (omega arith))))
