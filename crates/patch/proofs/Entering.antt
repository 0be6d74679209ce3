-- The entries of a recording that is taken, one after the other.
use Rattle.std.proofs.Common.{◌≡◌, ℕ, zero, suc, ◌+◌, ◌<◌, true, false, List, [], ◌∷◌, length, is_ok, MatchOption, Some, None, Ok, Err, Option, Result, sym, refl, ap, ◌∙◌, arith, rules}
use Rattle.std.specs.Option.{OnSome}
use Rattle.std.specs.Result.{IsOk}
use Rattle.recording.specs.declared.refusal.Refusal.{Refusal}
use Rattle.recording.specs.declared.entry.Entry.{Entry}
use Rattle.recording.specs.declared.entry.Reader.{Reader}
use Rattle.recording.specs.Items.{Item}
use Rattle.recording.specs.Reading.{ahead, item_seen, entry_fault, end_fault, Stepping}
use Rattle.recording.specs.Entries.{item_in, rest_of}
use Rattle.recording.specs.Recorded.{unless, prepend, recorded_from, remaining, items_of, counted}
use Rattle.recording.proofs.Remaining.{remaining_step, remaining_declined, remaining_none, prepended_ok, prepended_items}

-- a recording of which a number of entries is answered is taken
pub counted_ok : (o : Result (List Item) Refusal) (n : ℕ) → Ok n ≡ counted o → is_ok o ≡ true
counted_ok (Ok es) n e = refl
counted_ok (Err f) n e = cc

-- a reader with such a recording before it does not decline, and what it leaves is such a recording too
pub not_declined : (r t : Reader) (o : Result (Option Entry) Refusal) → is_ok (remaining r) ≡ true → Stepping r t o → IsOk o
not_declined r t (Ok o) s p = refl
not_declined r t (Err f) s p = let z : false ≡ true = sym (ap is_ok (remaining_declined r f p.0)) ∙ s in cc

pub stays_sound : (r t : Reader) (o : Result (Option Entry) Refusal) → is_ok (remaining r) ≡ true → Stepping r t o → is_ok (remaining t) ≡ true
stays_sound r t (Ok None) s p = ap (λ x. is_ok (remaining x)) p.2 ∙ s
stays_sound r t (Ok (Some e)) s p = sym (prepended_ok (item_in (ahead r)) (remaining t)) ∙ ap is_ok (sym (remaining_step r t p.0 p.1 p.4)) ∙ s
stays_sound r t (Err f) s p = ap (λ x. is_ok (remaining x)) p.1 ∙ s

-- its first entry is given, and the others are left
pub yields : (r t : Reader) (o : Option Entry) → is_ok (remaining r) ≡ true → Stepping r t (Ok o)
    → MatchOption o ((items_of (remaining r) ≡ []) × (items_of (remaining t) ≡ [])) (λ e. items_of (remaining r) ≡ item_seen e ∷ items_of (remaining t))
yields r t None s p = let e = ap items_of (remaining_none r p.0 p.1) in (e, ap (λ x. items_of (remaining x)) p.2 ∙ e)
yields r t (Some e) s p =
    ap items_of (remaining_step r t p.0 p.1 p.4)
    ∙ prepended_items (item_in (ahead r)) (remaining t) (stays_sound r t (Ok (Some e)) s p)
    ∙ ap (λ i. i ∷ items_of (remaining t)) (sym p.2)

-- as many entries are left as the reader counts
after : (e : Item) (o : Option Refusal) (rest : Result (List Item) Refusal) → is_ok (unless o (prepend e rest)) ≡ true → (is_ok rest ≡ true) × (length (items_of (unless o (prepend e rest))) ≡ suc (length (items_of rest)))
after e None (Ok es) h = (refl, refl)
after e None (Err f) h = let z : false ≡ true = h in cc
after e (Some f) rest h = let z : false ≡ true = h in cc

at_end : (o : Option Refusal) → is_ok (unless {A = List Item} o (Ok [])) ≡ true → length (items_of (unless o (Ok []))) ≡ 0
at_end None h = refl
at_end (Some f) h = let z : false ≡ true = h in cc

left_from : (n k : ℕ) (x : List ℕ) → is_ok (recorded_from n k x) ≡ true → length (items_of (recorded_from n k x)) ≡ n
unfolding recorded_from
left_from zero k x h = at_end (end_fault x) h
left_from (suc n) k x h =
    let a = after (item_in x) (entry_fault k x) (recorded_from n (k + 1) (rest_of x)) h in
    a.1 ∙ ap suc (left_from n (k + 1) (rest_of x) a.0)

pub left_is : (r : Reader) → is_ok (remaining r) ≡ true → length (items_of (remaining r)) ≡ r.left
left_is r s = left_from r.left _ _ s

-- an entry less is left
pub goes : (r t : Reader) (o : Option Entry) → Stepping r t (Ok o) → (Q : Type 0) → (t.left < r.left → Q) → OnSome o Q
goes r t None p Q q = search rules
goes r t (Some e) p Q q = q (let h = p.0 in let l = p.4.left in omega arith)
