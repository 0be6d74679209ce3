-- Entries that are taken: how many there are, and that they write whole sectors.
use Rattle.std.proofs.Common.{◌≡◌, ℕ, zero, suc, ◌+◌, ◌-◌, ◌/◌, ◌<◌, ◌≤◌, Bool, true, false, cond, ltb, leb, List, [], map, length, get_or, Some, None, Ok, Err, Result, sym, refl, ap, ◌∙◌, subst, inl, inr, arith}
use Rattle.std.proofs.lemmas.Nat.{div-add-mod'}
use Rattle.std.proofs.lemmas.List.FromFn.{length-map-range_with_len, get_or-map-range_with_len}
use Rattle.std.proofs.lemmas.List.{length-map, length-replicate, get_or-replicate, get_or_past, get_or-map}
use Rattle.std.proofs.lemmas.Bool.{cases_lt, and_parts, leb-true, ltb-true, ltb-false}
use Rattle.image.specs.Sectors.{sector_at}
use Rattle.image.specs.Cuts.{length_sector}
use Rattle.recording.specs.declared.refusal.Refusal.TheVariants.{Head, TooMany}
use Rattle.recording.specs.Items.{Item, write, discard, flush, mark}
use Rattle.recording.specs.Heads.{head_faulty, count_in}
use Rattle.recording.specs.Entries.{sector_cut, malformed, data_in, data_cut, item_in, rest_of}
use Rattle.recording.specs.Reading.{open_fault}
use Rattle.crash.specs.Effects.{Effect, effect_of, zeros}
use Rattle.crash.specs.Rules.{content, nothing}
use Rattle.crash.specs.States.{is_writer}
use Rattle.trace.specs.Meaning.{Whole}
use Rattle.meaning.specs.Loads.{unmarked, outside_in, onwards, entries_from}

-- HOW MANY. A head that is taken tells at most 256.
within_limit : (h m : Bool) → cond h (Some Head) (cond m (Some TooMany) None) ≡ None → m ≡ false
within_limit true m e = cc
within_limit false true e = cc
within_limit false false e = refl

pub few_told : (bytes : List ℕ) → open_fault bytes ≡ None → count_in bytes ≤ 256
few_told bytes e = ltb-false 256 (count_in bytes) (within_limit (head_faulty bytes) (ltb 256 (count_in bytes)) e)

-- the entries, if they are taken, are so many
abbrev Many : ℕ → Result (List Item) (ℕ × ℕ) → Type 0
Many n (Ok items) = length items ≡ n
Many n (Err r) = Unit {0}

unless : (n : ℕ) (b : Bool) (r : ℕ × ℕ) (o : Result (List Item) (ℕ × ℕ)) → Many n o → Many n (cond b (Err r) o)
unless n true r o h = tt
unless n false r o h = h

one_more : (n : ℕ) (e : Item) (o : Result (List Item) (ℕ × ℕ)) → Many n o → Many (suc n) (onwards e o)
one_more n e (Ok es) h = ap suc h
one_more n e (Err r) h = tt

as_many : (left k used count : ℕ) (x : List ℕ) → Many left (entries_from left k used count x)
unfolding entries_from
as_many zero k used count x = unless 0 (ltb 0 (length x)) (12, 0) (Ok []) refl
as_many (suc n) k used count x =
    let rest = onwards (item_in x) (entries_from n (k + 1) (used + data_in x) count (rest_of x)) in
    let a = cond (data_cut x) (Err (7, k)) rest in
    let b = cond (ltb 96 (used + data_in x)) (Err (11, k)) a in
    let c = cond (outside_in x count) (Err (9, k)) b in
    let d = cond (unmarked x) (Err (10, k)) c in
    let e = cond (malformed x) (Err (8, k)) d in
    unless (suc n) (sector_cut x) (7, k) e
    (unless (suc n) (malformed x) (8, k) d
    (unless (suc n) (unmarked x) (10, k) c
    (unless (suc n) (outside_in x count) (9, k) b
    (unless (suc n) (ltb 96 (used + data_in x)) (11, k) a
    (unless (suc n) (data_cut x) (7, k) rest
    (one_more n (item_in x) (entries_from n (k + 1) (used + data_in x) count (rest_of x)) (as_many n (k + 1) (used + data_in x) count (rest_of x))))))))

pub entries_told : (left k used count : ℕ) (x : List ℕ) (items : List Item) → entries_from left k used count x ≡ Ok items → length items ≡ left
entries_told left k used count x items e =
    let P : Result (List Item) (ℕ × ℕ) → Type 0 = λ o. Many left o in
    subst P e (as_many left k used count x)

-- WHOLE SECTORS are written.
whole_contents : (e : Item) (i : ℕ) → i < length (effect_of e).contents → length (get_or (effect_of e).contents i []) ≡ 512
whole_contents (write sector fl force meta row) i h =
    let n = length row / 512 in
    let l : i < n = rw length-map-range_with_len at h in
    let d = div-add-mod' (length row) 512 in
    ap length (get_or-map-range_with_len (sector_at row) 0 n i i [] l (omega arith)) ∙ length_sector row i (omega arith)
whole_contents (discard sector sectors fl meta) i h =
    let l : i < sectors = rw length-replicate at h in
    ap length (get_or-replicate sectors i zeros [] l) ∙ length-replicate {A = ℕ} 512 0
whole_contents (flush sector force dis meta) i h = absurd (omega arith)
whole_contents (mark text) i h = absurd (omega arith)

whole_item : (e : Item) (s : ℕ) → is_writer (effect_of e) s ≡ true → length (content (effect_of e) s) ≡ 512
whole_item e s h =
    let w = effect_of e in
    let b = and_parts (leb w.first s) (ltb s (w.first + length w.contents)) h in
    let low = leb-true w.first s b.0 in
    let high = ltb-true s (w.first + length w.contents) b.1 in
    whole_contents e (s - w.first) (omega arith)

-- the effect of a number is that of an entry; past the last it is that of an empty text
effect_at : (items : List Item) (i : ℕ) → get_or (map effect_of items) i nothing ≡ effect_of (get_or items i (mark []))
effect_at items i = elim (cases_lt i (length items)) [
  | inl l ↦ get_or-map effect_of items i (mark []) nothing l
  | inr g ↦
      get_or_past (map effect_of items) i nothing (subst (λ (k : ℕ). k ≤ i) (sym (length-map items effect_of)) g)
      ∙ ap effect_of (sym (get_or_past items i (mark []) g))
]

pub whole_entries : (items : List Item) → Whole (map effect_of items)
whole_entries items i s =
    let P : Effect → Type 0 = λ e. is_writer e s ≡ true → length (content e s) ≡ 512 in
    subst P (sym (effect_at items i)) (whole_item (get_or items i (mark [])) s)
