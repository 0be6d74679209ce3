-- Entry after entry into a trace.
use Rattle.std.proofs.Common.{◌≡◌, ℕ, ◌+◌, ◌-◌, ◌/◌, ◌<◌, ◌≤◌, List, [], ◌∷◌, ◌++◌, map, length, get_or, drop, Some, None, Ok, Err, vec_items, Result, sym, refl, ap, ◌∙◌, subst, append_assoc, arith}
use Rattle.std.specs.List.{range_with_len, AllByRecursion}
use Rattle.std.proofs.lemmas.List.{ext_get_or, get_or_append_left, get_or-append_right, length-append, map_push}
use Rattle.std.proofs.lemmas.List.FromFn.{length-map-range_with_len, get_or-map-range_with_len}
use Rattle.std.proofs.ByRecursion.{All-push}
use Rattle.image.specs.Sectors.{Sector, sector_at}
use Rattle.mark.specs.declared.mark.Mark.{Mark}
use Rattle.recording.specs.declared.entry.Entry.{Entry}
use Rattle.recording.specs.declared.entry.Reader.{Reader}
use Rattle.recording.specs.Items.{Item, write, discard, flush, mark, data_of}
use Rattle.recording.specs.Heads.{count_in}
use Rattle.recording.specs.Reading.{open_fault, ahead, next_number, item_seen, Opening}
use Rattle.crash.specs.Effects.{effect_of}
use Rattle.trace.specs.declared.steps.Source.{Source}
use Rattle.trace.specs.declared.steps.Source.TheVariants.{Zeros, Data}
use Rattle.trace.specs.declared.steps.Step.{Step}
use Rattle.trace.specs.declared.steps.Trace.{Trace}
use Rattle.trace.specs.Meaning.{contents_from, step_effect, effects_of, marks_of}
use Rattle.meaning.specs.Meanings.{mark_in}
use Rattle.meaning.specs.Loads.{entries_from, onwards}
use Rattle.loading.specs.Loading.{whole_sectors, step_of, InSource, LiesIn, Means, remaining, entries_of, NextRead}

-- two functions that agree below n make the same list
same_map : (f g : ℕ → Sector) (n : ℕ) → ((i : ℕ) → i < n → f i ≡ g i) → map f (range_with_len 0 n) ≡ map g (range_with_len 0 n)
same_map f g n h = ext_get_or [] (map f (range_with_len 0 n)) (map g (range_with_len 0 n)) (length-map-range_with_len f 0 n ∙ sym (length-map-range_with_len g 0 n)) (λ i l.
    let k : i < n = rw length-map-range_with_len at l in
    get_or-map-range_with_len f 0 n i i [] k (omega arith) ∙ h i k ∙ sym (get_or-map-range_with_len g 0 n i i [] k (omega arith)))

-- more data sectors behind change no step that lies within the old ones
same_contents : (xs ys : List Sector) (s : Source) (n : ℕ) → InSource s n (length xs) → contents_from (xs ++ ys) s n ≡ contents_from xs s n
same_contents xs ys Zeros n h = refl
same_contents xs ys (Data from) n h = same_map (λ i. get_or (xs ++ ys) (from + i) []) (λ i. get_or xs (from + i) []) n (λ i l. get_or_append_left xs ys [] (from + i) (omega arith))

same_effect : (xs ys : List Sector) (s : Step) → LiesIn (length xs) s → step_effect (xs ++ ys) s ≡ step_effect xs s
same_effect xs ys s h = ap (λ c. record { flush = s.flush; fua = s.fua; first = s.first; contents = c }) (same_contents xs ys s.source s.sectors h)

same_effects : (xs ys : List Sector) (ss : List Step) → AllByRecursion (LiesIn (length xs)) ss → map (step_effect (xs ++ ys)) ss ≡ map (step_effect xs) ss
same_effects xs ys [] h = refl
same_effects xs ys (s ∷ ss) h = ap (λ e. e ∷ map (step_effect (xs ++ ys)) ss) (same_effect xs ys s h.0) ∙ ap (λ es. step_effect xs s ∷ es) (same_effects xs ys ss h.1)

-- the step of an entry has the effect of the entry
new_effect : (xs : List Sector) (e : Item) (m : Mark) → step_effect (xs ++ whole_sectors (data_of e)) (step_of e m (length xs)) ≡ effect_of e
new_effect xs (write sector fl force meta content) m =
    let n = length content / 512 in
    let ys = map (sector_at content) (range_with_len 0 n) in
    ap (λ c. record { flush = fl; fua = force; first = sector; contents = c })
    (same_map (λ i. get_or (xs ++ ys) (length xs + i) []) (sector_at content) n (λ i l.
    let k : (length xs + i) - length xs ≡ i = omega arith in
    get_or-append_right xs ys (length xs) (length xs + i) [] refl (omega arith) ∙ ap (λ j. get_or ys j []) k ∙ get_or-map-range_with_len (sector_at content) 0 n i i [] l (omega arith)))
new_effect xs (discard sector sectors fl meta) m = refl
new_effect xs (flush sector force dis meta) m = refl
new_effect xs (mark text) m = refl

new_mark : (e : Item) (m : Mark) (from : ℕ) → (step_of e m from).mark ≡ m
new_mark (write sector fl force meta content) m from = refl
new_mark (discard sector sectors fl meta) m from = refl
new_mark (flush sector force dis meta) m from = refl
new_mark (mark text) m from = refl

-- it lies within the new data sectors
new_within : (xs : List Sector) (e : Item) (m : Mark) → LiesIn (length (xs ++ whole_sectors (data_of e))) (step_of e m (length xs))
new_within xs (write sector fl force meta content) m =
    let a = length-append xs (whole_sectors content) in
    let b = length-map-range_with_len (sector_at content) 0 (length content / 512) in
    omega arith
new_within xs (discard sector sectors fl meta) m = tt
new_within xs (flush sector force dis meta) m = tt
new_within xs (mark text) m = tt

wider : (n k : ℕ) → n ≤ k → (s : Source) (m : ℕ) → InSource s m n → InSource s m k
wider n k h Zeros m l = tt
wider n k h (Data from) m l = omega arith

all_wider : (n k : ℕ) → n ≤ k → (ss : List Step) → AllByRecursion (LiesIn n) ss → AllByRecursion (LiesIn k) ss
all_wider n k h [] a = tt
all_wider n k h (s ∷ ss) a = (wider n k h s.source s.sectors a.0, all_wider n k h ss a.1)

-- A TRACE WITH ONE ENTRY MORE.
means_more : (t u : Trace) (items : List Item) (e : Item) → Means t items → vec_items u.steps ≡ vec_items t.steps ++ step_of e (mark_in e) (length (vec_items t.sectors)) ∷ [] →
    vec_items u.sectors ≡ vec_items t.sectors ++ whole_sectors (data_of e) → Means u (items ++ e ∷ [])
unfolding effects_of marks_of
means_more t u items e m es ds =
    let xs = vec_items t.sectors in
    let ys = whole_sectors (data_of e) in
    let ss = vec_items t.steps in
    let step = step_of e (mark_in e) (length xs) in
    let grown : length xs ≤ length (xs ++ ys) = let a = length-append xs ys in omega arith in
    record {
      effects =
          ap (λ q. map (step_effect q) (vec_items u.steps)) ds
          ∙ ap (map (step_effect (xs ++ ys))) es
          ∙ map_push (step_effect (xs ++ ys)) ss step
          ∙ ap (λ q. q ++ step_effect (xs ++ ys) step ∷ []) (same_effects xs ys ss m.bounded ∙ m.effects)
          ∙ ap (λ q. map effect_of items ++ q ∷ []) (new_effect xs e (mark_in e))
          ∙ sym (map_push effect_of items e);
      marks =
          ap (map (λ s. s.mark)) es
          ∙ map_push (λ s. s.mark) ss step
          ∙ ap (λ q. q ++ step.mark ∷ []) m.marks
          ∙ ap (λ q. map mark_in items ++ q ∷ []) (new_mark e (mark_in e) (length xs))
          ∙ sym (map_push mark_in items e);
      bounded =
          let P : List Sector → Type 0 = λ q. AllByRecursion (LiesIn (length q)) (vec_items u.steps) in
          let Q : List Step → Type 0 = λ q. AllByRecursion (LiesIn (length (xs ++ ys))) q in
          subst P (sym ds) (subst Q (sym es) (All-push (LiesIn (length (xs ++ ys))) ss step (all_wider (length xs) (length (xs ++ ys)) grown ss m.bounded) (new_within xs e (mark_in e))));
    }

means_none : (t : Trace) → vec_items t.steps ≡ [] → Means t []
unfolding effects_of marks_of
means_none t e =
    let P : List Step → Type 0 = λ q. AllByRecursion (LiesIn (length (vec_items t.sectors))) q in
    record { effects = ap (map (step_effect (vec_items t.sectors))) e; marks = ap (map (λ s. s.mark)) e; bounded = subst P (sym e) tt }

-- ON THE WAY. Entries read so far, before those that are left.
abbrev pub glue : List Item → Result (List Item) (ℕ × ℕ) → Result (List Item) (ℕ × ℕ)
glue items (Ok es) = Ok (items ++ es)
glue items (Err r) = Err r

pub glue_none : (o : Result (List Item) (ℕ × ℕ)) → glue [] o ≡ o
glue_none (Ok es) = refl
glue_none (Err r) = refl

pub glue_more : (items : List Item) (e : Item) (o : Result (List Item) (ℕ × ℕ)) → glue items (onwards e o) ≡ glue (items ++ e ∷ []) o
glue_more items e (Ok es) = ap Ok (sym (append_assoc items (e ∷ []) es))
glue_more items e (Err r) = refl

pub record Midway (s : List ℕ) (count : ℕ) (r : Reader) (n : ℕ) (t : Trace) (items : List Item) : Type 0 where
  pub opened : open_fault s ≡ None
  pub means : Means t items
  pub same : glue items (remaining r n count) ≡ entries_of s count
  pub kept : length (vec_items t.sectors) ≤ n
  pub few : n ≤ 96

pub started : (s : List ℕ) (count : ℕ) (r : Reader) (t : Trace) → Opening s (Ok r) → vec_items t.steps ≡ [] → vec_items t.sectors ≡ [] → Midway s count r 0 t []
started s count r t o es ds =
    let one : next_number r ≡ 1 = let a = o.3 in let b = o.4 in omega arith in
    let x : ahead r ≡ drop 512 s = ap (λ p. drop p r.bytes.now) o.2 ∙ ap (drop 512) o.1 in
    record {
      opened = o.0;
      means = means_none t es;
      same = glue_none (remaining r 0 count)
          ∙ ap (λ n. entries_from n (next_number r) 0 count (ahead r)) o.4
          ∙ ap (λ k. entries_from (count_in s) k 0 count (ahead r)) one
          ∙ ap (entries_from (count_in s) 1 0 count) x;
      kept = omega (arith, ap length ds);
      few = omega arith;
    }

-- one entry more
pub went : (s : List ℕ) (count : ℕ) (r q : Reader) (n m : ℕ) (t u : Trace) (items : List Item) (e : Entry) (said : Mark) → Midway s count r n t items → NextRead count r q n m (Ok (Some (e, said))) →
    vec_items u.steps ≡ vec_items t.steps ++ step_of (item_seen e) said (length (vec_items t.sectors)) ∷ [] → vec_items u.sectors ≡ vec_items t.sectors ++ whole_sectors (data_of (item_seen e)) → Midway s count q m u (items ++ item_seen e ∷ [])
went s count r q n m t u items e said w o es ds =
    let i = item_seen e in
    record {
      opened = w.opened;
      means = means_more t u items i w.means (es ∙ ap (λ k. vec_items t.steps ++ step_of i k (length (vec_items t.sectors)) ∷ []) o.1) ds;
      same = sym (glue_more items i (remaining q m count)) ∙ ap (glue items) (sym o.0) ∙ w.same;
      kept =
          let a = ap length ds in
          let b = length-append (vec_items t.sectors) (whole_sectors (data_of i)) in
          let c = length-map-range_with_len (sector_at (data_of i)) 0 (length (data_of i) / 512) in
          let d = o.4 in
          let k = w.kept in
          omega arith;
      few = o.3;
    }
