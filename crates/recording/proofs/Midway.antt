-- A reader on its way through a whole recording.
use Rattle.std.proofs.Common.{◌≡◌, ℕ, ◌<◌, true, false, List, [], is_some, Some, None, Ok, Err, Option, Result, sym, refl, ap, ◌∙◌, subst, arith}
use Rattle.image.specs.Sectors.{Bytes}
use Rattle.recording.specs.declared.refusal.Refusal.{Refusal}
use Rattle.recording.specs.declared.entry.Entry.{Entry}
use Rattle.recording.specs.declared.entry.Reader.{Reader}
use Rattle.recording.specs.Items.{Item}
use Rattle.recording.specs.Heads.{count_in}
use Rattle.recording.specs.Entries.{item_in}
use Rattle.recording.specs.Reading.{ahead, reader_fault, Moved, Opening, Stepping}
use Rattle.recording.specs.Recorded.{prepend, recorded, remaining, counted, Validated}
use Rattle.recording.proofs.Wholly.{whole_taken, validated}
use Rattle.recording.proofs.Remaining.{remaining_whole, remaining_step, remaining_declined, remaining_none}

-- the reason to decline, if there is one
abbrev pub fault_of : Result (List Item) Refusal → Option Refusal
fault_of (Ok es) = None
fault_of (Err f) = Some f

-- what is left decides as the whole does
pub record Midway (s : List ℕ) (r : Reader) : Type 0 where
  pub total : r.total ≡ count_in s
  pub same : fault_of (remaining r) ≡ fault_of (recorded s)

fault_prepend : (e : Item) (r : Result (List Item) Refusal) → fault_of (prepend e r) ≡ fault_of r
fault_prepend e (Ok es) = refl
fault_prepend e (Err f) = refl

pub started : (s : List ℕ) (r : Reader) → Opening s (Ok r) → Midway s r
started s r o = let w = remaining_whole s r o in record { total = o.3; same = ap fault_of w.0 }

stepped : (s : List ℕ) (r t : Reader) → Midway s r → 0 < r.left → reader_fault r ≡ None → Moved r t → Midway s t
stepped s r t m h f v =
    record {
      total = v.total ∙ m.total;
      same = sym (fault_prepend (item_in (ahead r)) (remaining t)) ∙ ap fault_of (sym (remaining_step r t h f v)) ∙ m.same;
    }

-- the same by whether an entry is given
pub going : (s : List ℕ) (r t : Reader) (o : Option Entry) → is_some o ≡ true → Stepping r t (Ok o) → Midway s r → Midway s t × (t.left < r.left)
going s r t None h p m = let z : false ≡ true = h in cc
going s r t (Some e) h p m = (stepped s r t m p.0 p.1 p.4, let a = p.0 in let b = p.4.left in omega arith)

pub ended : (r t : Reader) (o : Option Entry) → is_some o ≡ false → Stepping r t (Ok o) → (r.left ≡ 0) × (ahead r ≡ []) × (t ≡ r)
ended r t None h p = p
ended r t (Some e) h p = let z : true ≡ false = h in cc

is_err : (o : Result (List Item) Refusal) (f : Refusal) → fault_of o ≡ Some f → o ≡ Err f
is_err (Ok es) f e = cc
is_err (Err g) f e = cc

is_ok : (o : Result (List Item) Refusal) → fault_of o ≡ None → (es : List Item) × (o ≡ Ok es)
is_ok (Ok es) e = (es, refl)
is_ok (Err g) e = cc

-- where the reader declines, the recording is declined
pub declined : (s : List ℕ) (r : Reader) (f : Refusal) → Midway s r → reader_fault r ≡ Some f → recorded s ≡ Err f
declined s r f m e = is_err (recorded s) f (sym m.same ∙ ap fault_of (remaining_declined r f e))

-- at the end it is taken
pub finished : (s : List ℕ) (r : Reader) → Bytes s → Midway s r → r.left ≡ 0 → ahead r ≡ [] → Ok r.total ≡ counted (recorded s)
finished s r bs m z e =
    let k = is_ok (recorded s) (sym m.same ∙ ap fault_of (remaining_none r z e)) in
    let w = whole_taken s k.0 bs k.1 in
    sym (ap counted k.1 ∙ ap Ok (w.2 ∙ sym m.total))

-- an answer that counts the entries says what it says of the layout
pub answered : (s : List ℕ) (r : Result ℕ Refusal) → Bytes s → r ≡ counted (recorded s) → Validated s r
answered s r bs e = let P : Result ℕ Refusal → Type 0 = λ q. Validated s q in subst P (sym e) (validated s bs (recorded s) refl)
