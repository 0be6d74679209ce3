-- A whole recording against its layout.
use Rattle.std.proofs.Common.{◌≡◌, ℕ, zero, suc, ◌+◌, ◌*◌, ◌≤◌, false, cond, ltb, List, [], ◌∷◌, ◌++◌, length, drop, Some, None, Ok, Err, Option, Result, sym, refl, ap, ◌∙◌, subst, inl, inr, arith}
use Rattle.std.specs.List.{AllByRecursion}
use Rattle.std.proofs.lemmas.Bool.{cases_Bool, cases_lt, le-ltb, lt-ltb}
use Rattle.std.proofs.lemmas.List.{nil_from_length}
use Rattle.image.specs.Sectors.{Bytes}
use Rattle.recording.specs.declared.refusal.Refusal.{Refusal}
use Rattle.recording.specs.declared.refusal.Refusal.TheVariants.{Head, TooMany, Incomplete, Trailing}
use Rattle.recording.specs.Items.{Item, Formed}
use Rattle.recording.specs.Layout.{head_layout, entry_layout, entries_layout, layout, Within}
use Rattle.recording.specs.Heads.{head_faulty, count_in}
use Rattle.recording.specs.Entries.{data_in, data_cut, item_in, rest_of}
use Rattle.recording.specs.Reading.{sector_fault, entry_fault, end_fault, open_fault, or_else}
use Rattle.recording.specs.Recorded.{unless, prepend, recorded_from, recorded, counted, RecordingLaws, Validated}
use Rattle.recording.proofs.Fielding.{bytes_drop}
use Rattle.recording.proofs.Laying.{taken_formed, taken_laid}
use Rattle.recording.proofs.Giving.{entry_reads}
use Rattle.recording.proofs.Made.{whole_sector}
use Rattle.recording.proofs.Deciding.{laid_taken, well_formed}
use Rattle.recording.proofs.Heading.{head_laid, head_reads}

-- an answer that is given had no reason against it
pub no_reason : {A : Type 0} (o : Option Refusal) (r : Result A Refusal) (a : A) → unless o r ≡ Ok a → (o ≡ None) × (r ≡ Ok a)
no_reason None r a e = (refl, e)
no_reason (Some f) r a e = cc

-- the reasons against an entry
first_none : (o p : Option Refusal) → or_else o p ≡ None → (o ≡ None) × (p ≡ None)
first_none None p e = (refl, e)
first_none (Some f) p e = cc

pub entry_parts : (k : ℕ) (x : List ℕ) → entry_fault k x ≡ None → (sector_fault k x ≡ None) × (512 + 512 * data_in x ≤ length x)
entry_parts k x e =
    let p = first_none (sector_fault k x) (cond (data_cut x) (Some (Incomplete k)) None) e in (
      p.0,
      elim (cases_lt (length x) (512 + 512 * data_in x)) [
        | inl l ↦ let t = ap (λ b. cond b (Some (Incomplete k)) None) (lt-ltb (length x) (512 + 512 * data_in x) l) in let q = p.1 in cc
        | inr g ↦ g
      ],
    )

at_end : (x : List ℕ) → end_fault x ≡ None → x ≡ []
at_end x e = elim (cases_lt 0 (length x)) [
  | inl l ↦ let t = ap (λ b. cond b (Some Trailing) None) (lt-ltb 0 (length x) l) in cc
  | inr g ↦ nil_from_length x (omega arith)
]

-- so many entries that are taken are laid out
prepended : (e : Item) (r : Result (List Item) Refusal) (es : List Item) → prepend e r ≡ Ok es → (fs : List Item) × (r ≡ Ok fs) × (es ≡ e ∷ fs)
prepended e (Ok fs) es q = (fs, refl, cc)
prepended e (Err f) es q = cc

pub from_taken : (n k : ℕ) (x : List ℕ) (es : List Item) → Bytes x → recorded_from n k x ≡ Ok es → (length es ≡ n) × AllByRecursion Formed es × (x ≡ entries_layout es)
unfolding recorded_from
from_taken zero k x es bs e =
    let p = no_reason (end_fault x) (Ok []) es e in
    let q : es ≡ [] = let w = p.1 in cc in
    let P : List Item → Type 0 = λ fs. (length fs ≡ 0) × AllByRecursion Formed fs × (x ≡ entries_layout fs) in
    subst P (sym q) (refl, tt, at_end x p.0)
from_taken (suc n) k x es bs e =
    let p = no_reason (entry_fault k x) (prepend (item_in x) (recorded_from n (k + 1) (rest_of x))) es e in
    let h = entry_parts k x p.0 in
    let w = whole_sector k x h.0 in
    let m = well_formed k x h.0 in
    let r = prepended (item_in x) (recorded_from n (k + 1) (rest_of x)) es p.1 in
    let i = from_taken n (k + 1) (rest_of x) r.0 (bytes_drop (512 + 512 * data_in x) x bs) r.1 in
    let P : List Item → Type 0 = λ fs. (length fs ≡ suc n) × AllByRecursion Formed fs × (x ≡ entries_layout fs) in
    subst P (sym r.2) (
      ap suc i.0,
      (taken_formed x bs w m h.1, i.1),
      taken_laid x bs w m h.1 ∙ ap (λ y. entry_layout (item_in x) ++ y) i.2,
    )

-- entries that are laid out are taken
pub from_given : (es : List Item) (k : ℕ) → AllByRecursion Formed es → recorded_from (length es) k (entries_layout es) ≡ Ok es
unfolding recorded_from
from_given [] k a = refl
from_given (e ∷ es) k a =
    let x = entries_layout (e ∷ es) in
    let q = entry_reads e a.0 (entries_layout es) x refl in
    ap (λ o. unless o (prepend (item_in x) (recorded_from (length es) (k + 1) (rest_of x)))) (laid_taken k e (entries_layout es) x a.0 refl)
    ∙ ap (λ i. prepend i (recorded_from (length es) (k + 1) (rest_of x))) q.item
    ∙ ap (λ y. prepend e (recorded_from (length es) (k + 1) y)) q.rest
    ∙ ap (prepend e) (from_given es (k + 1) a.1)

-- a recording that is opened
pub opened : (s : List ℕ) → open_fault s ≡ None → (head_faulty s ≡ false) × (count_in s ≤ 256)
opened s e = elim (cases_Bool (head_faulty s)) [
  | inl t ↦ let q = ap (λ b. cond b (Some Head) (cond (ltb 256 (count_in s)) (Some TooMany) None)) t in cc
  | inr f ↦
      let q = ap (λ b. cond b (Some Head) (cond (ltb 256 (count_in s)) (Some TooMany) None)) f in (
        f,
        elim (cases_lt 256 (count_in s)) [
          | inl l ↦ let t = ap (λ b. cond b (Some TooMany) None) (lt-ltb 256 (count_in s) l) in cc
          | inr g ↦ g
        ],
      )
]

pub whole_taken : (s : List ℕ) (es : List Item) → Bytes s → recorded s ≡ Ok es → Within es × (s ≡ layout es) × (length es ≡ count_in s)
unfolding recorded
whole_taken s es bs e =
    let p = no_reason (open_fault s) (recorded_from (count_in s) 1 (drop 512 s)) es e in
    let o = opened s p.0 in
    let i = from_taken (count_in s) 1 (drop 512 s) es (bytes_drop 512 s bs) p.1 in
    let c = o.1 in
    let l = i.0 in
    ((omega arith, i.1), head_laid s bs o.0 ∙ ap (λ n. head_layout n ++ drop 512 s) (sym l) ∙ ap (λ y. head_layout (length es) ++ y) i.2, l)

pub whole_given : (es : List Item) → Within es → recorded (layout es) ≡ Ok es
unfolding recorded
whole_given es w =
    let s = layout es in
    let few = w.0 in
    let h = head_reads (length es) (entries_layout es) (omega arith) s refl in
    ap (λ b. unless (cond b (Some Head) (cond (ltb 256 (count_in s)) (Some TooMany) None)) (recorded_from (count_in s) 1 (drop 512 s))) h.fine
    ∙ ap (λ n. unless (cond (ltb 256 n) (Some TooMany) None) (recorded_from n 1 (drop 512 s))) h.count
    ∙ ap (λ b. unless (cond b (Some TooMany) None) (recorded_from (length es) 1 (drop 512 s))) (le-ltb 256 (length es) few)
    ∙ ap (recorded_from (length es) 1) h.rest
    ∙ from_given es 1 w.1

pub laws : RecordingLaws
laws = record { taken = λ s es bs e. let t = whole_taken s es bs e in (t.0, t.1); given = whole_given }

-- the answer to a whole recording
pub validated : (s : List ℕ) → Bytes s → (o : Result (List Item) Refusal) → recorded s ≡ o → Validated s (counted o)
validated s bs (Ok es) e = let t = whole_taken s es bs e in (es, t.0, refl, t.1)
validated s bs (Err f) e = λ es w l. let q = whole_given es w in let t = ap recorded l in cc
