-- The sectors of an image by number, with zeros where there is none.
use Rattle.std.specs.Prelude.{◌≡◌, ℕ, ◌<◌, [], length, replicate, slice_index, slice_index_or, slice_set}
use Rattle.std.proofs.Common.{sym, ap, ◌∙◌, inl, inr, arith}
use Rattle.std.proofs.lemmas.List.{get_or_default, get_or_past, get_or-replicate, length-replicate, length-set, get_or-set_same, get_or-set_other}
use Rattle.std.proofs.lemmas.Bool.{cases_lt, cases_eq}
use Rattle.image.specs.Sectors.{Sector, Image, Bytes, Shaped}

-- a sector of zeros
unfoldable pub blank : Sector
blank = replicate 512 0

-- sector n; where there is none, zeros
abbrev pub sector_of : Image → ℕ → Sector
sector_of image n = slice_index_or image n blank

pub blank_long : length blank ≡ 512
unfolding blank
blank_long = length-replicate {A = ℕ} 512 0

zeros : (i : ℕ) → slice_index (replicate {A = ℕ} 512 0) i ≡ 0
zeros i = elim (cases_lt i 512) [
  | inl l ↦ get_or-replicate 512 i 0 0 l
  | inr g ↦ get_or_past (replicate 512 0) i 0 (omega (arith, length-replicate {A = ℕ} 512 0))
]

pub blank_bytes : Bytes blank
unfolding blank
blank_bytes i = omega (arith, zeros i)

-- the default does not matter where there is a sector
pub sector_is : (image : Image) (n : ℕ) → n < length image → slice_index_or image n [] ≡ sector_of image n
sector_is image n l = get_or_default image n [] blank l

-- every sector of a store's image has 512 bytes
pub sector_long : (image : Image) (n : ℕ) → Shaped image → length (sector_of image n) ≡ 512
sector_long image n s = elim (cases_lt n (length image)) [
  | inl l ↦ ap length (sym (sector_is image n l)) ∙ s.whole n l
  | inr g ↦ ap length (get_or_past image n blank g) ∙ blank_long
]

pub sector_bytes : (image : Image) (n : ℕ) → Shaped image → Bytes (sector_of image n)
sector_bytes image n s = elim (cases_lt n (length image)) [
  | inl l ↦ rw (← sector_is image n l) (s.bytes n l)
  | inr g ↦ rw (get_or_past image n blank g) blank_bytes
]

-- and each byte of it is below 256
pub byte_below : (image : Image) (n i : ℕ) → Shaped image → slice_index (sector_of image n) i < 256
byte_below image n i s = sector_bytes image n s i

-- an image with another sector of 512 bytes is still one
pub set_shaped : (image : Image) (n : ℕ) (new : Sector) → Shaped image → length new ≡ 512 → Bytes new → Shaped (slice_set image n new)
set_shaped image n new s long bytes = record {
  few = rw length-set s.few;
  whole = λ k l. elim (cases_eq k n) [
    | inl e ↦ let h : n < length image = omega (arith, length-set image n new) in ap (λ j. length (slice_index_or (slice_set image n new) j [])) e ∙ ap length (get_or-set_same image n new [] h) ∙ long
    | inr ne ↦ ap length (get_or-set_other image n k new [] ne) ∙ s.whole k (omega (arith, length-set image n new))
  ];
  bytes = λ k l. elim (cases_eq k n) [
    | inl e ↦ let h : n < length image = omega (arith, length-set image n new) in rw (e, get_or-set_same image n new [] h) bytes
    | inr ne ↦ rw (get_or-set_other image n k new [] ne) (s.bytes k (omega (arith, length-set image n new)))
  ];
}
