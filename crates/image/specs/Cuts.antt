-- The sectors of a row of bytes, and what a write of one sector does to them.
use Rattle.std.specs.Prelude.{◌≡◌, ℕ, zero, suc, ◌+◌, ◌-◌, ◌*◌, ◌<◌, ◌≤◌, ◌≢◌, List, [], ◌∷◌, ◌++◌, map, length, get_or, take, drop, slice_index, slice_index_or, slice_set, refl}
use Rattle.std.proofs.Common.{sym, ap, ◌∙◌, inl, inr, arith}
use Rattle.std.specs.List.{range_with_len}
use Rattle.std.specs.Simd.{first_chunks}
use Rattle.std.proofs.lemmas.List.FromFn.{length-map-range_with_len, get_or-map-range_with_len}
use Rattle.std.proofs.lemmas.List.{ext_get_or, drop-take, drop_at, take_at, length-take-le, length-drop, length-take, length-set, get_or-set_same, get_or-set_other, drop-drop, length-append, take-append-le, take-take, append_assoc, get_or-take, get_or-drop, get_or_past}
use Rattle.std.proofs.lemmas.Bool.{cases_eq, cases_lt}
use Rattle.std.proofs.lemmas.Nat.{div-add-mod'}
use Rattle.image.specs.Sectors.{cut, sector_at, count_in, put, Shaped, Bytes, Untouched}

pub length_cut : (b : List ℕ) → length (cut b) ≡ count_in (length b)
length_cut b = length-map-range_with_len (sector_at b) 0 (count_in (length b))

-- a sector that counts lies whole in the bytes
pub within : (len n : ℕ) → n < count_in len → 512 * n + 512 ≤ len
within len n h = omega (arith, div-add-mod' len 512)

pub cut_at : (b : List ℕ) (n : ℕ) → n < count_in (length b) → slice_index_or (cut b) n [] ≡ sector_at b n
cut_at b n h = get_or-map-range_with_len (sector_at b) 0 (count_in (length b)) n n [] h (omega arith)

-- the same of a sector of the image that a row means
pub within_cut : (b : List ℕ) (n : ℕ) → n < length (cut b) → 512 * n + 512 ≤ length b
within_cut b n h = within (length b) n (rw length_cut at h)

pub cut_index : (b : List ℕ) (n : ℕ) → n < length (cut b) → slice_index_or (cut b) n [] ≡ sector_at b n
cut_index b n h = cut_at b n (rw length_cut at h)

pub length_sector : (b : List ℕ) (n : ℕ) → 512 * n + 512 ≤ length b → length (sector_at b n) ≡ 512
length_sector b n h = simp (length-take, length-drop) (omega arith)

pub bytes_sector : (b : List ℕ) (n : ℕ) → 512 * n + 512 ≤ length b → Bytes b → Bytes (sector_at b n)
bytes_sector b n w bs i = elim (cases_lt i 512) [
  | inl h ↦ rw (get_or-take 512 (drop (512 * n) b) i 0 h, get_or-drop (512 * n) b i 0) (bs (512 * n + i))
  | inr h ↦ let p : get_or (sector_at b n) i 0 ≡ 0 = get_or_past (sector_at b n) i 0 (omega (arith, length_sector b n w)) in omega (arith, p)
]

pub cut_shaped : (b : List ℕ) → Bytes b → Shaped (cut b)
cut_shaped b bs = record {
  few = rw length_cut (omega arith);
  whole = λ k h. let l : k < count_in (length b) = rw length_cut at h in ap length (cut_at b k l) ∙ length_sector b k (within (length b) k l);
  bytes = λ k h. let l : k < count_in (length b) = rw length_cut at h in rw (cut_at b k l) (bytes_sector b k (within (length b) k l) bs);
}

module _ (b : List ℕ) (n : ℕ) (s : List ℕ) (fits : 512 * n + 512 ≤ length b) (whole : length s ≡ 512) where
  front : length (take (512 * n) b) ≡ 512 * n
  front = length-take-le (512 * n) b (omega arith)

  pub length_put : length (put b n s) ≡ length b
  length_put = simp (length-append, length-take, length-drop) (omega arith)

  pub put_same : sector_at (put b n s) n ≡ s
  put_same = ap (take 512) (drop_at (take (512 * n) b) (s ++ drop (512 * n + 512) b) (512 * n) front) ∙ take_at s _ 512 whole

  put_below : (k : ℕ) → k < n → sector_at (put b n s) k ≡ sector_at b k
  put_below k h =
      sym (drop-take (512 * k) 512 (put b n s))
      ∙ ap (drop (512 * k)) (take-append-le (512 * k + 512) (take (512 * n) b) (s ++ drop (512 * n + 512) b) (omega (arith, front)) ∙ take-take (512 * k + 512) (512 * n) b (omega arith))
      ∙ drop-take (512 * k) 512 b

  -- what lies past the sector
  pub past : (m : ℕ) → 512 * n + 512 ≤ m → drop m (put b n s) ≡ drop m b
  past m h =
      ap (λ x. drop x (put b n s)) (the_sum)
      ∙ sym (drop-drop (m - (512 * n + 512)) (512 * n + 512) (put b n s))
      ∙ ap (drop (m - (512 * n + 512))) (ap (drop (512 * n + 512)) (sym (append_assoc (take (512 * n) b) s (drop (512 * n + 512) b))) ∙ drop_at (take (512 * n) b ++ s) (drop (512 * n + 512) b) (512 * n + 512) (length-append (take (512 * n) b) s ∙ both))
      ∙ drop-drop (m - (512 * n + 512)) (512 * n + 512) b
      ∙ ap (λ x. drop x b) (sym the_sum)
    where
      the_sum : m ≡ (512 * n + 512) + (m - (512 * n + 512))
      the_sum = omega arith

      both : length (take (512 * n) b) + length s ≡ 512 * n + 512
      both = omega (arith, front)

  put_above : (k : ℕ) → n < k → sector_at (put b n s) k ≡ sector_at b k
  put_above k h = ap (take 512) (past (512 * k) (omega arith))

  pub put_other : (k : ℕ) → k ≢ n → sector_at (put b n s) k ≡ sector_at b k
  put_other k ne = elim (cases_lt k n) [ inl l ↦ put_below k l | inr l ↦ put_above k (omega arith) ]

  pub cut_put : n < count_in (length b) → cut (put b n s) ≡ slice_set (cut b) n s
  cut_put l = ext_get_or [] (cut (put b n s)) (slice_set (cut b) n s)
      (length_cut (put b n s) ∙ ap count_in length_put ∙ sym (length_cut b) ∙ sym (length-set (cut b) n s))
      (λ k h. each k (rw length_put at (rw length_cut at h)))
    where
      each : (k : ℕ) → k < count_in (length b) → slice_index_or (cut (put b n s)) k [] ≡ slice_index_or (slice_set (cut b) n s) k []
      each k h = cut_at (put b n s) k (rw length_put h) ∙ elim (cases_eq k n) [
        | inl e ↦ ap (sector_at (put b n s)) e ∙ put_same ∙ sym (ap (get_or (slice_set (cut b) n s) k) refl ∙ ap (λ j. get_or (slice_set (cut b) n s) j []) e ∙ get_or-set_same (cut b) n s [] (rw length_cut l))
        | inr ne ↦ put_other k ne ∙ sym (cut_at b k h) ∙ sym (get_or-set_other (cut b) n k s [] ne)
      ]

  -- and byte by byte
  pub put_past : (k : ℕ) → 512 * n + 512 ≤ k → slice_index (put b n s) k ≡ slice_index b k
  put_past k h =
      let e : k ≡ k + 0 = omega arith in
      ap (λ x. slice_index (put b n s) x) e ∙ sym (get_or-drop k (put b n s) 0 0) ∙ ap (λ l. slice_index l 0) (past k h) ∙ get_or-drop k b 0 0 ∙ ap (λ x. slice_index b x) (sym e)

pub untouched_self : (s : List ℕ) → Untouched s s
untouched_self s = (refl, refl)

pub untouched_onward : (s t u : List ℕ) → Untouched s t → Untouched t u → Untouched s u
untouched_onward s t u p q = (
  q.0 ∙ p.0,
  ap (λ n. drop (512 * count_in n) u) (sym p.0) ∙ q.1 ∙ ap (λ n. drop (512 * count_in n) t) p.0 ∙ p.1,
)

-- said byte by byte: the row is as long as before, and behind the sectors that count each byte is the same
pub untouched_says : (s t : List ℕ) → Untouched s t → (length t ≡ length s) × ((k : ℕ) → 512 * count_in (length s) ≤ k → slice_index t k ≡ slice_index s k)
untouched_says s t u = (u.0, λ k h. same k (512 * count_in (length s)) h u.1)
  where
    same : (k m : ℕ) → m ≤ k → drop m t ≡ drop m s → slice_index t k ≡ slice_index s k
    same k m h e =
        let i : k ≡ m + (k - m) = omega arith in
        ap (λ x. slice_index t x) i ∙ sym (get_or-drop m t (k - m) 0) ∙ ap (λ l. slice_index l (k - m)) e ∙ get_or-drop m s (k - m) 0 ∙ ap (λ x. slice_index s x) (sym i)

-- a write of a sector that counts: the image after it, and what it leaves of the row
pub cut_written : (b : List ℕ) (n : ℕ) (s : List ℕ) → n < length (cut b) → length s ≡ 512 → cut (put b n s) ≡ slice_set (cut b) n s
cut_written b n s h whole = cut_put b n s (within_cut b n h) whole (rw length_cut at h)

pub put_untouched : (b : List ℕ) (n : ℕ) (s : List ℕ) → n < length (cut b) → length s ≡ 512 → Untouched b (put b n s)
put_untouched b n s h whole =
    let w = within_cut b n h in
    let l : n < count_in (length b) = rw length_cut at h in
    (length_put b n s w whole, past b n s w whole (512 * count_in (length b)) (omega arith))

-- the whole sectors of a row, chunk by chunk
chunks_from : (row : List ℕ) (i k : ℕ) → first_chunks 512 k (drop (512 * i) row) ≡ map (sector_at row) (range_with_len i k)
chunks_from row i zero = refl
chunks_from row i (suc k) =
    let e : 512 * i + 512 ≡ 512 * (i + 1) = omega arith in
    ap (λ xs. sector_at row i ∷ first_chunks 512 k xs) (drop-drop 512 (512 * i) row ∙ ap (λ n. drop n row) e)
    ∙ ap (λ xs. sector_at row i ∷ xs) (chunks_from row (i + 1) k)

pub chunks_are_sectors : (row : List ℕ) (k : ℕ) → first_chunks 512 k row ≡ map (sector_at row) (range_with_len 0 k)
chunks_are_sectors row k = chunks_from row 0 k
