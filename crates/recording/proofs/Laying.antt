-- The entry that is read of a sector that keeps the rules is the one laid out there.
use Rattle.std.proofs.Common.{◌≡◌, ℕ, ◌+◌, ◌-◌, ◌*◌, ◌^◌, ◌<◌, ◌≤◌, Bool, true, false, cond, not, eqb, List, [], ◌++◌, length, drop, sym, refl, ap, ◌∙◌, inl, inr, append_assoc, arith}
use Rattle.std.specs.List.{between}
use Rattle.std.proofs.lemmas.Bool.{eqb-true, eqb-false, or_parts, not-false, and_cases, both_ways}
use Rattle.std.proofs.lemmas.List.{nil_from_length, length-take-le, length-drop}
use Rattle.image.specs.Sectors.{Bytes}
use Rattle.image.specs.Layers.{has}
use Rattle.recording.specs.Numbers.{number, part, all_zero}
use Rattle.recording.specs.Items.{Item, write, discard, flush, mark, worth, sector_of, sectors_of, bits_of, text_of, data_of, Formed}
use Rattle.recording.specs.Layout.{sector_layout, entry_layout}
use Rattle.recording.specs.Entries.{sector_in, sectors_in, bits_in, size_in, text_in, fields_flawed, malformed, data_in, item_in}
use Rattle.recording.proofs.Fielding.{bytes_drop, bytes_take, number_below, length_part, peel}
use Rattle.recording.proofs.Flagging.{Kept, fields_kept, bits_sum}
use Rattle.recording.proofs.Sectoring.{sector_laid, text_length}

-- an entry has these fields, this text and these data, and is within the rules
pub record Fitting (e : Item) (sector sectors bits : ℕ) (text content : List ℕ) : Type 0 where
  pub sector_is : sector_of e ≡ sector
  pub sectors_is : sectors_of e ≡ sectors
  pub bits_is : bits_of e ≡ bits
  pub text_is : text_of e ≡ text
  pub data_is : data_of e ≡ content
  pub formed : Formed e

module _ (sector sectors bits size : ℕ) (text content : List ℕ)
    (kept : Kept sector sectors bits size) (fits-sector : sector < 2 ^ 64) (fits-sectors : sectors < 2 ^ 64)
    (sized : length text ≡ size) (text-bytes : Bytes text)
    (filled : length content ≡ 512 * cond (has bits 2) 0 sectors) (content-bytes : Bytes content) where
  sum : (b0 b1 b2 b3 b4 : Bool) → has bits 0 ≡ b0 → has bits 1 ≡ b1 → has bits 2 ≡ b2 → has bits 3 ≡ b3 → has bits 4 ≡ b4
      → worth b0 1 + worth b1 2 + worth b2 4 + worth b3 8 + worth b4 16 ≡ bits
  sum b0 b1 b2 b3 b4 e0 e1 e2 e3 e4 = rw (← e0, ← e1, ← e2, ← e3, ← e4) (sym (bits_sum bits kept.small))

  none : (d : Bool) → has bits 2 ≡ d → sectors ≡ 0 → [] ≡ content
  none d e z = sym (nil_from_length content (filled ∙ ap (λ n. 512 * cond (has bits 2) 0 n) z ∙ zeroed (has bits 2)))
    where
      zeroed : (b : Bool) → 512 * cond b 0 0 ≡ 0
      zeroed true = refl
      zeroed false = refl

  textless : has bits 3 ≡ false → [] ≡ text
  textless e = sym (nil_from_length text (sized ∙ kept.texts e))

  fit : (m z d : Bool) → has bits 3 ≡ m → eqb sectors 0 ≡ z → has bits 2 ≡ d
      → Fitting (cond m (mark text) (cond z (flush sector (has bits 1) (has bits 2) (has bits 4)) (cond d (discard sector sectors (has bits 0) (has bits 4)) (write sector (has bits 0) (has bits 1) (has bits 4) content)))) sector sectors bits text content
  fit true z d em ez ed =
      let o = kept.marks em in
      record { sector_is = sym o.1; sectors_is = sym o.2; bits_is = sym o.0; text_is = refl; data_is = none d ed o.2; formed = (let k = kept.few in omega arith, text-bytes) }
  fit false true d em ez ed =
      let s : sectors ≡ 0 = eqb-true sectors 0 ez in
      record {
        sector_is = refl;
        sectors_is = sym s;
        bits_is = omega (arith, sum true (has bits 1) (has bits 2) false (has bits 4) (kept.some s em) refl refl em refl);
        text_is = textless em;
        data_is = none d ed s;
        formed = (fits-sector, kept.apart);
      }
  fit false false true em ez ed =
      let ne = eqb-false sectors 0 ez in
      let fua : has bits 1 ≡ false = elim (and_cases (has bits 2) (has bits 1) kept.apart) [ inl x ↦ absurd (both_ways (has bits 2) x ed) | inr x ↦ x ] in
      let empty : length content ≡ 0 = filled ∙ ap (λ b. 512 * cond b 0 sectors) ed in
      record {
        sector_is = refl;
        sectors_is = refl;
        bits_is = omega (arith, sum (has bits 0) false true false (has bits 4) refl fua ed em refl);
        text_is = textless em;
        data_is = sym (nil_from_length content empty);
        formed = (fits-sector, omega arith, fits-sectors);
      }
  fit false false false em ez ed =
      let ne = eqb-false sectors 0 ez in
      let full : length content ≡ 512 * sectors = filled ∙ ap (λ b. 512 * cond b 0 sectors) ed in
      record {
        sector_is = refl;
        sectors_is = omega arith;
        bits_is = omega (arith, sum (has bits 0) (has bits 1) false false (has bits 4) refl refl ed em refl);
        text_is = textless em;
        data_is = refl;
        formed = (fits-sector, (sectors, omega arith, fits-sectors, full), content-bytes);
      }

-- where an entry is taken, it is laid out and within the rules
module _ (x : List ℕ) (bs : Bytes x) (whole : 512 ≤ length x) (formed : malformed x ≡ false) (complete : 512 + 512 * data_in x ≤ length x) where
  parts : (fields_flawed (sector_in x) (sectors_in x) (bits_in x) (size_in x) ≡ false) × (not (all_zero (between (32 + size_in x) 512 x)) ≡ false)
  parts = or_parts (fields_flawed (sector_in x) (sectors_in x) (bits_in x) (size_in x)) (not (all_zero (between (32 + size_in x) 512 x))) formed

  kept : Kept (sector_in x) (sectors_in x) (bits_in x) (size_in x)
  kept = fields_kept (sector_in x) (sectors_in x) (bits_in x) (size_in x) parts.0

  zeros : all_zero (between (32 + size_in x) 512 x) ≡ true
  zeros = not-false (all_zero (between (32 + size_in x) 512 x)) parts.1

  fits : (k : ℕ) → k + 8 ≤ length x → number (part x k 8) < 2 ^ 64
  fits k h = rw (length_part x k 8 h) at (number_below (part x k 8) (bytes_take 8 (drop k x) (bytes_drop k x bs)))

  content : List ℕ
  content = between 512 (512 + 512 * data_in x) x

  content_length : length content ≡ 512 * data_in x
  unfolding content
  content_length = length-take-le (512 + 512 * data_in x - 512) (drop 512 x) (omega (arith, length-drop 512 x)) ∙ omega arith

  fitting : Fitting (item_in x) (sector_in x) (sectors_in x) (bits_in x) (text_in x) content
  unfolding content
  fitting = fit (sector_in x) (sectors_in x) (bits_in x) (size_in x) (text_in x) content kept
      (fits 0 (omega arith)) (fits 8 (omega arith))
      (text_length x bs whole kept.few zeros) (bytes_take (32 + size_in x - 32) (drop 32 x) (bytes_drop 32 x bs))
      content_length (bytes_take (512 + 512 * data_in x - 512) (drop 512 x) (bytes_drop 512 x bs))
      (has (bits_in x) 3) (eqb (sectors_in x) 0) (has (bits_in x) 2) refl refl refl

  pub taken_formed : Formed (item_in x)
  taken_formed = fitting.formed

  pub taken_laid : x ≡ entry_layout (item_in x) ++ drop (512 + 512 * data_in x) x
  unfolding entry_layout content
  taken_laid =
      let f = fitting in
      let e : 512 + (512 + 512 * data_in x - 512) ≡ 512 + 512 * data_in x = omega arith in
      let after = drop (512 + 512 * data_in x) x in
      sector_laid x bs whole kept.few zeros
      ∙ ap (λ y. sector_layout (sector_in x) (sectors_in x) (bits_in x) (text_in x) ++ y) (peel 512 (512 + 512 * data_in x - 512) x ∙ ap (λ i. content ++ drop i x) e)
      ∙ sym (append_assoc (sector_layout (sector_in x) (sectors_in x) (bits_in x) (text_in x)) content after)
      ∙ ap (λ n. (sector_layout n (sectors_in x) (bits_in x) (text_in x) ++ content) ++ after) (sym f.sector_is)
      ∙ ap (λ n. (sector_layout (sector_of (item_in x)) n (bits_in x) (text_in x) ++ content) ++ after) (sym f.sectors_is)
      ∙ ap (λ n. (sector_layout (sector_of (item_in x)) (sectors_of (item_in x)) n (text_in x) ++ content) ++ after) (sym f.bits_is)
      ∙ ap (λ n. (sector_layout (sector_of (item_in x)) (sectors_of (item_in x)) (bits_of (item_in x)) n ++ content) ++ after) (sym f.text_is)
      ∙ ap (λ n. (sector_layout (sector_of (item_in x)) (sectors_of (item_in x)) (bits_of (item_in x)) (text_of (item_in x)) ++ n) ++ after) (sym f.data_is)
