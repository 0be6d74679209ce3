-- An entry within the rules that is laid out is taken, and is the one that is read.
use Rattle.std.proofs.Common.{◌≡◌, ℕ, ◌+◌, ◌-◌, ◌*◌, ◌/◌, ◌^◌, ◌<◌, ◌≤◌, Bool, true, false, cond, not, ◌&&◌, ◌||◌, eqb, ltb, leb, List, ◌++◌, length, take, drop, sym, refl, ap, ◌∙◌, append_assoc, arith}
use Rattle.std.specs.List.{between}
use Rattle.std.proofs.lemmas.Bool.{ne_eqb, or_from, and_left, and_right, le-ltb, lt-leb, not_from_true}
use Rattle.std.proofs.lemmas.List.{take_at, drop_at, drop-drop, length-append}
use Rattle.image.specs.Layers.{has}
use Rattle.recording.specs.declared.entry.Flags.{Flags}
use Rattle.recording.specs.Numbers.{all_zero}
use Rattle.recording.specs.Items.{Item, write, discard, flush, mark, flags_of, worth, sector_of, sectors_of, bits_of, text_of, data_of, Formed}
use Rattle.recording.specs.Layout.{sector_layout, entry_layout}
use Rattle.recording.specs.Entries.{sector_in, sectors_in, bits_in, size_in, text_in, mark_flawed, text_flawed, flags_flawed, fields_flawed, malformed, data_in, item_in}
use Rattle.recording.proofs.Sectoring.{SectorReads, sector_reads}
use Rattle.recording.proofs.Made.{made}

-- the flags of an entry
unfoldable pub flags_for : Item → Flags
flags_for (write sector fl fua meta content) = record { flush = fl; fua = fua; discard = false; mark = false; metadata = meta }
flags_for (discard sector sectors fl meta) = record { flush = fl; fua = false; discard = true; mark = false; metadata = meta }
flags_for (flush sector fua dis meta) = record { flush = true; fua = fua; discard = dis; mark = false; metadata = meta }
flags_for (mark text) = record { flush = false; fua = false; discard = false; mark = true; metadata = false }

flags_read : (e : Item) → flags_of (bits_of e) ≡ flags_for e
unfolding flags_for has
flags_read (write sector true true true content) = refl
flags_read (write sector true true false content) = refl
flags_read (write sector true false true content) = refl
flags_read (write sector true false false content) = refl
flags_read (write sector false true true content) = refl
flags_read (write sector false true false content) = refl
flags_read (write sector false false true content) = refl
flags_read (write sector false false false content) = refl
flags_read (discard sector sectors true true) = refl
flags_read (discard sector sectors true false) = refl
flags_read (discard sector sectors false true) = refl
flags_read (discard sector sectors false false) = refl
flags_read (flush sector true true true) = refl
flags_read (flush sector true true false) = refl
flags_read (flush sector true false true) = refl
flags_read (flush sector true false false) = refl
flags_read (flush sector false true true) = refl
flags_read (flush sector false true false) = refl
flags_read (flush sector false false true) = refl
flags_read (flush sector false false false) = refl
flags_read (mark text) = refl

-- a flag is worth at most its number
worth_le : (b : Bool) (n : ℕ) → worth b n ≤ n
worth_le true n = omega arith
worth_le false n = omega arith

bits_small : (e : Item) → bits_of e < 32
bits_small (write sector fl fua meta content) = omega (arith, worth_le fl 1, worth_le fua 2, worth_le meta 16)
bits_small (discard sector sectors fl meta) = omega (arith, worth_le fl 1, worth_le meta 16)
bits_small (flush sector fua dis meta) = omega (arith, worth_le fua 2, worth_le dis 4, worth_le meta 16)
bits_small (mark text) = omega arith

sector_fits : (e : Item) → Formed e → sector_of e < 2 ^ 64
sector_fits (write sector fl fua meta content) f = f.0
sector_fits (discard sector sectors fl meta) f = f.0
sector_fits (flush sector fua dis meta) f = f.0
sector_fits (mark text) f = omega arith

whole_sectors : (content : List ℕ) (n : ℕ) → length content ≡ 512 * n → length content / 512 ≡ n
whole_sectors content n e = omega arith

sectors_fit : (e : Item) → Formed e → sectors_of e < 2 ^ 64
sectors_fit (write sector fl fua meta content) f = let e = whole_sectors content f.1.0 f.1.3 in let h = f.1.2 in omega arith
sectors_fit (discard sector sectors fl meta) f = f.2
sectors_fit (flush sector fua dis meta) f = omega arith
sectors_fit (mark text) f = omega arith

text_fits : (e : Item) → Formed e → length (text_of e) ≤ 480
text_fits (write sector fl fua meta content) f = omega arith
text_fits (discard sector sectors fl meta) f = omega arith
text_fits (flush sector fua dis meta) f = omega arith
text_fits (mark text) f = f.0

-- the rules for fields, by the flags
flawed_by : (sector sectors bits size : ℕ) → Flags → Bool
flawed_by sector sectors bits size f = leb 32 bits || (mark_flawed sector sectors bits f || (text_flawed size f || flags_flawed sectors f))

-- sectors that are some
some : (n : ℕ) (b : Bool) → 1 ≤ n → eqb n 0 && b ≡ false
some n b h = and_left (eqb n 0) b (ne_eqb n 0 (λ e. omega arith))

flawless : (e : Item) → Formed e → flawed_by (sector_of e) (sectors_of e) (bits_of e) (length (text_of e)) (flags_for e) ≡ false
unfolding flawed_by flags_for
flawless (write sector fl fua meta content) f =
    let e = whole_sectors content f.1.0 f.1.3 in
    let h = f.1.1 in
    or_from (leb 32 (bits_of (write sector fl fua meta content))) _ (lt-leb 32 (bits_of (write sector fl fua meta content)) (bits_small (write sector fl fua meta content)))
    (some (length content / 512) (not fl) (omega arith))
flawless (discard sector sectors fl meta) f =
    or_from (leb 32 (bits_of (discard sector sectors fl meta))) _ (lt-leb 32 (bits_of (discard sector sectors fl meta)) (bits_small (discard sector sectors fl meta)))
    (some sectors (not fl) f.1)
flawless (flush sector fua dis meta) f =
    or_from (leb 32 (bits_of (flush sector fua dis meta))) _ (lt-leb 32 (bits_of (flush sector fua dis meta)) (bits_small (flush sector fua dis meta)))
    (or_from (dis && fua) false f.1 refl)
flawless (mark text) f =
    or_from (ltb 480 (length text) || (not (eqb (length text) 0) && false)) (eqb 0 1)
    (or_from (ltb 480 (length text)) (not (eqb (length text) 0) && false) (le-ltb 480 (length text) f.0) (and_right (not (eqb (length text) 0)) false refl)) refl

-- the entry that is made of an entry's own fields
own : (e : Item) → Formed e → made (sector_of e) (sectors_of e) (flags_for e) (text_of e) (data_of e) ≡ e
unfolding made flags_for
own (write sector fl fua meta content) f =
    let e = whole_sectors content f.1.0 f.1.3 in
    let h = f.1.1 in
    ap (λ b. cond b (flush sector fua false meta) (write sector fl fua meta content)) (ne_eqb (length content / 512) 0 (λ z. omega arith))
own (discard sector sectors fl meta) f =
    let h = f.1 in
    ap (λ b. cond b (flush sector false true meta) (discard sector sectors fl meta)) (ne_eqb sectors 0 (λ z. omega arith))
own (flush sector fua dis meta) f = refl
own (mark text) f = refl

-- how many bytes of data an entry has
data_length : (e : Item) → Formed e → length (data_of e) ≡ 512 * cond (flags_for e).discard 0 (sectors_of e)
unfolding flags_for
data_length (write sector fl fua meta content) f = let e = whole_sectors content f.1.0 f.1.3 in let l = f.1.3 in omega arith
data_length (discard sector sectors fl meta) f = refl
data_length (flush sector true true meta) f = refl
data_length (flush sector true false meta) f = refl
data_length (flush sector false true meta) f = refl
data_length (flush sector false false meta) f = refl
data_length (mark text) f = refl

-- what is read of a row that begins with an entry within the rules
pub record EntryReads (e : Item) (r x : List ℕ) : Type 0 where
  pub whole : 512 ≤ length x
  pub formed : malformed x ≡ false
  pub complete : 512 + 512 * data_in x ≤ length x
  pub sector : sector_in x ≡ sector_of e
  pub sectors : sectors_in x ≡ sectors_of e
  pub flags : flags_of (bits_in x) ≡ flags_for e
  pub text : text_in x ≡ text_of e
  pub filled : length (data_of e) ≡ 512 * data_in x
  pub item : item_in x ≡ e
  pub rest : drop (512 + 512 * data_in x) x ≡ r

module _ (e : Item) (f : Formed e) (r x : List ℕ) (laid : x ≡ entry_layout e ++ r) where
  reads : SectorReads (sector_of e) (sectors_of e) (bits_of e) (text_of e) (data_of e ++ r) x
  unfolding entry_layout
  reads =
      let b = bits_small e in
      sector_reads (sector_of e) (sectors_of e) (bits_of e) (text_of e) (data_of e ++ r) (sector_fits e f) (sectors_fit e f) (omega arith) (text_fits e f) x
      (laid ∙ append_assoc (sector_layout (sector_of e) (sectors_of e) (bits_of e) (text_of e)) (data_of e) r)

  flags : flags_of (bits_in x) ≡ flags_for e
  flags = ap flags_of reads.bits ∙ flags_read e

  amount : data_in x ≡ cond (flags_for e).discard 0 (sectors_of e)
  amount = ap (λ g. cond g.discard 0 (sectors_in x)) flags ∙ ap (cond (flags_for e).discard 0) reads.sectors

  size : length (data_of e) ≡ 512 * data_in x
  size = data_length e f ∙ ap (λ n. 512 * n) (sym amount)

  sound : fields_flawed (sector_in x) (sectors_in x) (bits_in x) (size_in x) ≡ false
  unfolding flawed_by
  sound =
      ap (λ n. fields_flawed n (sectors_in x) (bits_in x) (size_in x)) reads.sector
      ∙ ap (λ n. fields_flawed (sector_of e) n (bits_in x) (size_in x)) reads.sectors
      ∙ ap (λ n. fields_flawed (sector_of e) (sectors_of e) n (size_in x)) reads.bits
      ∙ ap (λ n. fields_flawed (sector_of e) (sectors_of e) (bits_of e) n) reads.size
      ∙ ap (flawed_by (sector_of e) (sectors_of e) (bits_of e) (length (text_of e))) (flags_read e)
      ∙ flawless e f

  content : between 512 (512 + 512 * data_in x) x ≡ data_of e
  content =
      let n : 512 + 512 * data_in x - 512 ≡ length (data_of e) = omega (arith, size) in
      ap (λ i. take i (drop 512 x)) n ∙ ap (take (length (data_of e))) reads.rest ∙ take_at (data_of e) r (length (data_of e)) refl

  same_item : item_in x ≡ e
  unfolding made
  same_item =
      ap (λ n. made n (sectors_in x) (flags_of (bits_in x)) (text_in x) (between 512 (512 + 512 * data_in x) x)) reads.sector
      ∙ ap (λ n. made (sector_of e) n (flags_of (bits_in x)) (text_in x) (between 512 (512 + 512 * data_in x) x)) reads.sectors
      ∙ ap (λ n. made (sector_of e) (sectors_of e) n (text_in x) (between 512 (512 + 512 * data_in x) x)) flags
      ∙ ap (λ n. made (sector_of e) (sectors_of e) (flags_for e) n (between 512 (512 + 512 * data_in x) x)) reads.text
      ∙ ap (λ n. made (sector_of e) (sectors_of e) (flags_for e) (text_of e) n) content
      ∙ own e f

  pub entry_reads : EntryReads e r x
  entry_reads =
      let w = reads.whole in
      let l = length-append (data_of e) r in
      record {
        whole = omega arith;
        formed = or_from (fields_flawed (sector_in x) (sectors_in x) (bits_in x) (size_in x)) (not (all_zero (between (32 + size_in x) 512 x))) sound (not_from_true (all_zero (between (32 + size_in x) 512 x)) reads.zeros);
        complete = omega (arith, size);
        sector = reads.sector;
        sectors = reads.sectors;
        flags = flags;
        text = reads.text;
        filled = size;
        item = same_item;
        rest = sym (drop-drop (512 * data_in x) 512 x) ∙ ap (drop (512 * data_in x)) reads.rest ∙ drop_at (data_of e) r (512 * data_in x) size;
      }
