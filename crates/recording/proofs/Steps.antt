-- A reader's next entry.
use Rattle.std.proofs.Common.{◌≡◌, ℕ, cond, List, Option, sym, ap, ◌∙◌}
use Rattle.std.proofs.lemmas.Bool.{ne_eqb}
use Rattle.recording.specs.declared.refusal.Refusal.{Refusal}
use Rattle.recording.specs.declared.entry.Reader.{Reader}
use Rattle.recording.specs.Reading.{ahead, next_number, entry_fault, end_fault, reader_fault}

pub reader_fault_lem : (r : Reader) (k : ℕ) (x : List ℕ) (o : Option Refusal) → (r.left ≡ 0 → ⊥) → k ≡ next_number r → x ≡ ahead r → entry_fault k x ≡ o → reader_fault r ≡ o
reader_fault_lem r k x o ne ek ex e =
    ap (λ b. cond b (end_fault (ahead r)) (entry_fault (next_number r) (ahead r))) (ne_eqb r.left 0 ne)
    ∙ ap (λ j. entry_fault j (ahead r)) (sym ek) ∙ ap (entry_fault k) (sym ex) ∙ e
