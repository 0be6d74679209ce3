-- An entry is declined exactly if none within the rules is laid out.
use Rattle.std.proofs.Common.{◌≡◌, ℕ, ◌+◌, ◌*◌, ◌≤◌, false, cond, List, ◌++◌, length, drop, Some, None, ap, ◌∙◌, inl, inr}
use Rattle.std.proofs.lemmas.Bool.{le-ltb, cases_Bool}
use Rattle.image.specs.Sectors.{Bytes}
use Rattle.recording.specs.declared.refusal.Refusal.{Refusal}
use Rattle.recording.specs.declared.refusal.Refusal.TheVariants.{Incomplete, Form}
use Rattle.recording.specs.Items.{Item, Formed}
use Rattle.recording.specs.Layout.{entry_layout}
use Rattle.recording.specs.Entries.{malformed, data_in, data_cut, item_in}
use Rattle.recording.specs.Reading.{sector_fault, entry_fault, or_else}
use Rattle.recording.proofs.Made.{whole_sector, entry_taken}
use Rattle.recording.proofs.Laying.{taken_formed, taken_laid}
use Rattle.recording.proofs.Giving.{entry_reads}

pub sector_taken : (k : ℕ) (x : List ℕ) → 512 ≤ length x → malformed x ≡ false → sector_fault k x ≡ None
sector_taken k x w m =
    ap (λ b. cond b (Some (Incomplete k)) (cond (malformed x) (Some (Form k)) None)) (le-ltb (length x) 512 w)
    ∙ ap (λ b. cond b (Some (Form k)) None) m

pub laid_taken : (k : ℕ) (e : Item) (r x : List ℕ) → Formed e → x ≡ entry_layout e ++ r → entry_fault k x ≡ None
laid_taken k e r x f l =
    let q = entry_reads e f r x l in
    entry_taken k x (sector_taken k x q.whole q.formed) q.complete

-- a reason to decline leaves no entry
pub none_laid : (k : ℕ) (x : List ℕ) (g : Refusal) → entry_fault k x ≡ Some g → (e : Item) (r : List ℕ) → Formed e → x ≡ entry_layout e ++ r → ⊥
none_laid k x g d e r f l = let t = laid_taken k e r x f l in cc

pub from_sector : (k : ℕ) (x : List ℕ) (g : Refusal) → sector_fault k x ≡ Some g → entry_fault k x ≡ Some g
from_sector k x g d = ap (λ o. or_else o (cond (data_cut x) (Some (Incomplete k)) None)) d

-- a sector that is taken keeps the rules
pub well_formed : (k : ℕ) (x : List ℕ) → sector_fault k x ≡ None → malformed x ≡ false
well_formed k x e = elim (cases_Bool (malformed x)) [
  | inl m ↦
      let w = whole_sector k x e in
      let t : sector_fault k x ≡ Some (Form k) =
      ap (λ b. cond b (Some (Incomplete k)) (cond (malformed x) (Some (Form k)) None)) (le-ltb (length x) 512 w)
      ∙ ap (λ b. cond b (Some (Form k)) None) m in
      cc
  | inr m ↦ m
]

pub given_laid : (k : ℕ) (x : List ℕ) → Bytes x → sector_fault k x ≡ None → 512 + 512 * data_in x ≤ length x → (e : Item) (n : ℕ) → e ≡ item_in x → n ≡ 512 + 512 * data_in x → Formed e × (x ≡ entry_layout e ++ drop n x)
given_laid k x bs t c e n i s =
    let w = whole_sector k x t in
    let m = well_formed k x t in
    (rw i (taken_formed x bs w m c), rw (i, s) (taken_laid x bs w m c))
