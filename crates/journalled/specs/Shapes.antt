-- The image after a recovery has as many sectors as before, each of 512 bytes.
use Rattle.std.specs.Prelude.{◌≡◌, ℕ, zero, suc, ◌+◌, ◌*◌, ◌%◌, ◌^◌, ◌<◌, Bool, true, false, cond, length, Ok, Err, Result, slice_index, slice_index_or, slice_set, refl}
use Rattle.std.proofs.Common.{ap, ◌∙◌, inl, inr, arith}
use Rattle.std.proofs.lemmas.List.{length-set, get_or-set_same, get_or-set_other, get_or_past}
use Rattle.std.proofs.lemmas.Bool.{cases_eq, cases_lt}
use Rattle.image.specs.Sectors.{Image, Sector, Bytes, Shaped}
use Rattle.filesystem.specs.declared.fault.Fault.{Fault}
use Rattle.image.specs.Fetched.{sector_of, sector_long, sector_bytes, set_shaped}
use Rattle.filesystem.specs.Words.{word_at, rest}
use Rattle.journalled.specs.Journal.{size_of, home_in, descriptor, stands, copied, put_word, advanced, replayed, recovered, headed, sequenced, when_ok, journalled_after}
use Rattle.journalled.specs.Puts.{length_put}
use Rattle.journalled.specs.Copies.{length_copied}

one_count : (im : Image) (b : Bool) → length (cond b (replayed im) im) ≡ length im
one_count im true = length-set (copied im (size_of im)) 0 (advanced (sector_of im 0)) ∙ length_copied im (size_of im)
one_count im false = refl

recovered_count : (im : Image) → length (recovered im) ≡ length im
unfolding recovered
recovered_count im = one_count im (stands im)

two_count : (r q : Result (Unit {0}) Fault) (a b : Image) → length a ≡ length b → length (when_ok r (when_ok q a b) b) ≡ length b
two_count (Ok x) (Ok y) a b e = e
two_count (Ok x) (Err f) a b e = refl
two_count (Err f) q a b e = refl

pub after_count : (im : Image) → length (journalled_after im) ≡ length im
after_count im = two_count (headed im) (sequenced im) (recovered im) im (recovered_count im)

-- a byte written into bytes
set_bytes : (s : Sector) (i x : ℕ) → Bytes s → x < 256 → Bytes (slice_set s i x)
set_bytes s i x h l k = elim (cases_eq k i) [
  | inl e ↦ elim (cases_lt i (length s)) [
    | inl inside ↦ let q : slice_index_or (slice_set s i x) k 0 ≡ x = ap (λ j. slice_index (slice_set s i x) j) e ∙ get_or-set_same s i x 0 inside in omega (arith, q)
    | inr past ↦ let q : slice_index_or (slice_set s i x) k 0 ≡ 0 = get_or_past (slice_set s i x) k 0 (omega (arith, length-set s i x)) in omega (arith, q)
  ]
  | inr ne ↦ let q : slice_index_or (slice_set s i x) k 0 ≡ slice_index_or s k 0 = get_or-set_other s i k x 0 ne in omega (arith, q, h k)
]

put_bytes : (s : Sector) (i w : ℕ) → Bytes s → Bytes (put_word s i w)
unfolding put_word
put_bytes s i w h = set_bytes _ _ _ (set_bytes _ _ _ (set_bytes _ _ _ (set_bytes s (4 * i) (w % 256) h (omega arith)) (omega arith)) (omega arith)) (omega arith)

module _ (im : Image) (s : Shaped im) where
  copied_shaped : (i : ℕ) → Shaped (copied im i)
  unfolding copied
  copied_shaped zero = s
  copied_shaped (suc i) = set_shaped (copied im i) (home_in (descriptor im) i) (sector_of im (3 + i)) (copied_shaped i) (sector_long im (3 + i) s) (sector_bytes im (3 + i) s)

  replayed_shaped : Shaped (replayed im)
  replayed_shaped =
      let h : Sector = sector_of im 0 in
      let w : ℕ = 3 * 2 ^ 30 + (rest (word_at h 2) + 1) % 2 ^ 30 in
      set_shaped (copied im (size_of im)) 0 (put_word h 2 w) (copied_shaped (size_of im)) (length_put h 2 w ∙ sector_long im 0 s) (put_bytes h 2 w (sector_bytes im 0 s))

  one_shaped : (b : Bool) → Shaped (cond b (replayed im) im)
  one_shaped true = replayed_shaped
  one_shaped false = s

  recovered_shaped : Shaped (recovered im)
  unfolding recovered
  recovered_shaped = one_shaped (stands im)

two_shaped : (r q : Result (Unit {0}) Fault) (a b : Image) → Shaped a → Shaped b → Shaped (when_ok r (when_ok q a b) b)
two_shaped (Ok x) (Ok y) a b h k = h
two_shaped (Ok x) (Err f) a b h k = k
two_shaped (Err f) q a b h k = k

pub after_shaped : (im : Image) → Shaped im → Shaped (journalled_after im)
after_shaped im s = two_shaped (headed im) (sequenced im) (recovered im) im (recovered_shaped im s) s
