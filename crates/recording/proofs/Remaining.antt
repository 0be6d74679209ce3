-- What is left before a reader, and how a step takes the first entry off it.
use Rattle.std.proofs.Common.{◌≡◌, ℕ, zero, suc, ◌+◌, ◌-◌, ◌*◌, ◌<◌, true, cond, List, [], ◌∷◌, drop, is_ok, Some, None, Ok, Err, Result, sym, refl, ap, ◌∙◌, inl, inr, arith}
use Rattle.std.proofs.lemmas.Bool.{ne_eqb, eq-eqb, cases_eq}
use Rattle.std.proofs.lemmas.List.{drop-drop}
use Rattle.recording.specs.declared.refusal.Refusal.{Refusal}
use Rattle.recording.specs.declared.entry.Reader.{Reader}
use Rattle.recording.specs.Items.{Item}
use Rattle.recording.specs.Heads.{count_in}
use Rattle.recording.specs.Entries.{data_in, item_in, rest_of}
use Rattle.recording.specs.Reading.{ahead, next_number, entry_fault, end_fault, open_fault, reader_fault, Moved, Opening}
use Rattle.recording.specs.Recorded.{unless, prepend, recorded_from, recorded, remaining, items_of}

-- the definition at one entry more, and at none
one_more : (n k : ℕ) (x : List ℕ) → 0 < n → recorded_from n k x ≡ unless (entry_fault k x) (prepend (item_in x) (recorded_from (n - 1) (k + 1) (rest_of x)))
unfolding recorded_from
one_more zero k x h = absurd (omega arith)
one_more (suc n) k x h = let e : n ≡ suc n - 1 = omega arith in ap (λ m. unless (entry_fault k x) (prepend (item_in x) (recorded_from m (k + 1) (rest_of x)))) e

no_more : (n k : ℕ) (x : List ℕ) → n ≡ 0 → recorded_from n k x ≡ unless (end_fault x) (Ok [])
unfolding recorded_from
no_more zero k x h = refl
no_more (suc n) k x h = absurd (omega arith)

reader_at : (r : Reader) → 0 < r.left → reader_fault r ≡ entry_fault (next_number r) (ahead r)
reader_at r h = ap (λ b. cond b (end_fault (ahead r)) (entry_fault (next_number r) (ahead r))) (ne_eqb r.left 0 (λ e. omega arith))

-- a reader that has just been opened has the whole recording before it
pub remaining_whole : (s : List ℕ) (r : Reader) → Opening s (Ok r) → (remaining r ≡ recorded s) × (next_number r ≡ 1)
unfolding recorded
remaining_whole s r o =
    let one : next_number r ≡ 1 = let t = o.3 in let l = o.4 in omega arith in
    let x : ahead r ≡ drop 512 s = ap (λ p. drop p r.bytes.now) o.2 ∙ ap (drop 512) o.1 in (
      ap (λ n. recorded_from n (next_number r) (ahead r)) o.4
          ∙ ap (λ k. recorded_from (count_in s) k (ahead r)) one
          ∙ ap (λ y. recorded_from (count_in s) 1 y) x
          ∙ sym (ap (λ q. unless q (recorded_from (count_in s) 1 (drop 512 s))) o.0),
      one,
    )

-- a recording that is not opened is declined
pub unopened : (s : List ℕ) (f : Refusal) → open_fault s ≡ Some f → recorded s ≡ Err f
unfolding recorded
unopened s f e = ap (λ o. unless o (recorded_from (count_in s) 1 (drop 512 s))) e

-- a step goes on to the next number, and leaves what is behind the entry
pub numbered : (r t : Reader) → 0 < r.left → Moved r t → next_number r + 1 ≡ next_number t
numbered r t h m = let o = r.ordered in let a = m.total in let b = m.left in omega arith

pub moved_ahead : (r t : Reader) → Moved r t → rest_of (ahead r) ≡ ahead t
moved_ahead r t m =
    drop-drop (512 + 512 * data_in (ahead r)) r.place r.bytes.now
    ∙ ap (λ p. drop p r.bytes.now) (sym m.place) ∙ ap (λ b. drop t.place b.now) (sym m.bytes)

-- a step takes the first entry off
pub remaining_step : (r t : Reader) → 0 < r.left → reader_fault r ≡ None → Moved r t → remaining r ≡ prepend (item_in (ahead r)) (remaining t)
remaining_step r t h f m =
    one_more r.left (next_number r) (ahead r) h
    ∙ ap (λ o. unless o (prepend (item_in (ahead r)) (recorded_from (r.left - 1) (next_number r + 1) (rest_of (ahead r))))) (sym (reader_at r h) ∙ f)
    ∙ ap (prepend (item_in (ahead r)))
    (ap (λ n. recorded_from n (next_number r + 1) (rest_of (ahead r))) (sym m.left)
    ∙ ap (λ k. recorded_from t.left k (rest_of (ahead r))) (numbered r t h m)
    ∙ ap (recorded_from t.left (next_number t)) (moved_ahead r t m))

-- where the reader declines, so does what is left
pub remaining_declined : (r : Reader) (f : Refusal) → reader_fault r ≡ Some f → remaining r ≡ Err f
remaining_declined r f e = elim (cases_eq r.left 0) [
  | inl z ↦ no_more r.left (next_number r) (ahead r) z ∙ ap (λ o. unless o (Ok [])) (sym (ap (λ b. cond b (end_fault (ahead r)) (entry_fault (next_number r) (ahead r))) (eq-eqb r.left 0 z)) ∙ e)
  | inr ne ↦ one_more r.left (next_number r) (ahead r) (omega arith) ∙ ap (λ o. unless o (prepend (item_in (ahead r)) (recorded_from (r.left - 1) (next_number r + 1) (rest_of (ahead r))))) (sym (reader_at r (omega arith)) ∙ e)
]

-- at the end nothing is left
pub remaining_none : (r : Reader) → r.left ≡ 0 → ahead r ≡ [] → remaining r ≡ Ok []
remaining_none r z e = no_more r.left (next_number r) (ahead r) z ∙ ap (λ y. unless (end_fault y) (Ok [])) e

-- entries with one before them
pub prepended_ok : (e : Item) (o : Result (List Item) Refusal) → is_ok (prepend e o) ≡ is_ok o
prepended_ok e (Ok es) = refl
prepended_ok e (Err f) = refl

pub prepended_items : (e : Item) (o : Result (List Item) Refusal) → is_ok o ≡ true → items_of (prepend e o) ≡ e ∷ items_of o
prepended_items e (Ok es) h = refl
prepended_items e (Err f) h = cc
