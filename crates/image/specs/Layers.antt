-- Sectors held over an image: which are held, and what the two show together.
use Rattle.std.specs.Prelude.{◌≡◌, ℕ, ◌+◌, ◌*◌, ◌/◌, ◌%◌, ◌^◌, ◌<◌, ◌≤◌, Bool, true, false, cond, List, [], map, length, ◌==◌, slice_index_or, refl}
use Rattle.std.proofs.Common.{sym, ap, ◌∙◌, arith}
use Rattle.std.specs.List.{count_by, sum_by, range_with_len}
use Rattle.std.proofs.lemmas.List.FromFn.{length-range_with_len, length-map-range_with_len, get_or-map-range_with_len, sum_by-map-range_with_len_more}
use Rattle.std.proofs.lemmas.List.{map-id}
use Rattle.std.proofs.lemmas.List.Sums.{count_by-le-length}
use Rattle.image.specs.Sectors.{Image, Sector, Shaped, Bytes, sector_at}
use Rattle.image.specs.Cuts.{length_sector, bytes_sector}

-- whether bit k of the mask is set
unfoldable pub has : ℕ → ℕ → Bool
has mask k = mask / 2 ^ k % 2 == 1

-- how many of the numbers below n pass the test
abbrev pub how_many : (ℕ → Bool) → ℕ → ℕ
how_many test n = count_by test (range_with_len 0 n)

pub how_many_none : (test : ℕ → Bool) → how_many test 0 ≡ 0
how_many_none test = refl

pub how_many_more : (test : ℕ → Bool) (n : ℕ) → how_many test (n + 1) ≡ how_many test n + cond (test n) 1 0
how_many_more test n =
    let f : ℕ → ℕ = λ k. cond (test k) 1 0 in
    ap (sum_by f) (sym (map-id (range_with_len 0 (n + 1))))
    ∙ sum_by-map-range_with_len_more f (λ k. k) 0 n n (omega arith)
    ∙ ap (λ xs. sum_by f xs + f n) (map-id (range_with_len 0 n))

pub how_many_le : (test : ℕ → Bool) (n : ℕ) → how_many test n ≤ n
how_many_le test n = omega (arith, count_by-le-length test (range_with_len 0 n), length-range_with_len 0 n)

-- what sector k shows: the held one where there is one, else that of the image below
abbrev pub showing : (mask : ℕ) (cells : List ℕ) (below : Image) → ℕ → Sector
showing mask cells below k = cond (has mask k) (sector_at cells k) (slice_index_or below k [])

-- what all show
abbrev pub overlaid : (mask : ℕ) (cells : List ℕ) (below : Image) → Image
overlaid mask cells below = map (showing mask cells below) (range_with_len 0 (length below))

pub length_overlaid : (m : ℕ) (cells : List ℕ) (below : Image) → length (overlaid m cells below) ≡ length below
length_overlaid m cells below = length-map-range_with_len (showing m cells below) 0 (length below)

pub overlaid_at : (m : ℕ) (cells : List ℕ) (below : Image) (k : ℕ) → k < length below → slice_index_or (overlaid m cells below) k [] ≡ showing m cells below k
overlaid_at m cells below k h = get_or-map-range_with_len (showing m cells below) 0 (length below) k k [] h (omega arith)

pub overlaid_shaped : (m : ℕ) (cells : List ℕ) (below : Image) → length cells ≡ 32768 → Bytes cells → Shaped below → Shaped (overlaid m cells below)
overlaid_shaped m cells below sized bs s = record {
  few = rw length_overlaid s.few;
  whole = λ k h. let l : k < length below = rw length_overlaid at h in ap length (overlaid_at m cells below k l) ∙ long k l (has m k);
  bytes = λ k h. let l : k < length below = rw length_overlaid at h in rw (overlaid_at m cells below k l) (full k l (has m k));
}
  where
    inside : (k : ℕ) → k < length below → 512 * k + 512 ≤ length cells
    inside k l = let f = s.few in omega arith

    long : (k : ℕ) → k < length below → (b : Bool) → length (cond b (sector_at cells k) (slice_index_or below k [])) ≡ 512
    long k l true = length_sector cells k (inside k l)
    long k l false = s.whole k l

    full : (k : ℕ) → k < length below → (b : Bool) → Bytes (cond b (sector_at cells k) (slice_index_or below k []))
    full k l true = bytes_sector cells k (inside k l) bs
    full k l false = s.bytes k l
