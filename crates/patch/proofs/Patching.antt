-- One new sector after the other.
use Rattle.std.proofs.Common.{◌≡◌, ℕ, ◌+◌, ◌-◌, ◌/◌, ◌<◌, false, cond, ◌&&◌, ltb, leb, [], map, replicate, length, get_or, set, sym, refl, ap, ◌∙◌, inl, inr, arith}
use Rattle.std.proofs.lemmas.Bool.{cases_eq, cases_lt, lt-ltb, le-ltb, le-leb, lt-leb, and_left, and_right, and_from, and_cases, both_ways, ltb-false}
use Rattle.std.proofs.lemmas.List.{ext_get_or, length-set, get_or-set_same, get_or-set_other}
use Rattle.std.proofs.lemmas.List.FromFn.{length-map-range_with_len, get_or-map-range_with_len}
use Rattle.std.specs.List.{range_with_len}
use Rattle.std.specs.Simd.{first_chunks}
use Rattle.image.specs.Cuts.{chunks_are_sectors}
use Rattle.image.specs.Sectors.{Image, Sector, sector_at}
use Rattle.recording.specs.Items.{Item, write, discard, flush, mark, sectors_of, data_of}
use Rattle.recording.specs.Writes.{nth}
use Rattle.patch.specs.Patched.{patched}

module _ (first : ℕ) (new : ℕ → Sector) (image : Image) where
  -- sector k with n new ones
  at : ℕ → ℕ → Sector
  at n k = cond (leb first k && ltb k (first + n)) (new (k - first)) (get_or image k [])

  pub length_patched : (n : ℕ) → length (patched first n new image) ≡ length image
  unfolding patched
  length_patched n = length-map-range_with_len _ 0 (length image)

  patched_at : (n k : ℕ) → k < length image → get_or (patched first n new image) k [] ≡ at n k
  unfolding patched at
  patched_at n k h = get_or-map-range_with_len (λ j. cond (leb first j && ltb j (first + n)) (new (j - first)) (get_or image j [])) 0 (length image) k k [] h (omega arith)

  pub patched_none : patched first 0 new image ≡ image
  unfolding at
  patched_none = ext_get_or [] (patched first 0 new image) image (length_patched 0) (λ k h.
      let l : k < length image = rw length_patched at h in
      patched_at 0 k l ∙ ap (λ b. cond b (new (k - first)) (get_or image k [])) (elim (cases_lt k first) [
        | inl b ↦ and_left (leb first k) (ltb k (first + 0)) (lt-leb first k b)
        | inr a ↦ and_right (leb first k) (ltb k (first + 0)) (le-ltb k (first + 0) (omega arith))
      ]))

  same : (n k : ℕ) → k ≡ first + n → at (n + 1) k ≡ new n
  unfolding at
  same n k e =
      let i : k - first ≡ n = omega arith in
      ap (λ b. cond b (new (k - first)) (get_or image k [])) (and_from (leb first k) (ltb k (first + (n + 1))) (le-leb first k (omega arith)) (lt-ltb k (first + (n + 1)) (omega arith)))
      ∙ ap new i

  other : (n k : ℕ) → (k ≡ first + n → ⊥) → at (n + 1) k ≡ at n k
  unfolding at
  other n k ne = ap (λ b. cond (leb first k && b) (new (k - first)) (get_or image k [])) (elim (cases_lt k (first + n)) [
    | inl l ↦ lt-ltb k (first + (n + 1)) (omega arith) ∙ sym (lt-ltb k (first + n) l)
    | inr g ↦ le-ltb k (first + (n + 1)) (omega arith) ∙ sym (le-ltb k (first + n) g)
  ])

  pub patched_more : (n : ℕ) → first + n < length image → set (patched first n new image) (first + n) (new n) ≡ patched first (n + 1) new image
  patched_more n inside = ext_get_or [] (set (patched first n new image) (first + n) (new n)) (patched first (n + 1) new image)
      (length-set (patched first n new image) (first + n) (new n) ∙ length_patched n ∙ sym (length_patched (n + 1)))
      (λ k h. each k (rw (length-set, length_patched) at h))
    where
      each : (k : ℕ) → k < length image → get_or (set (patched first n new image) (first + n) (new n)) k [] ≡ get_or (patched first (n + 1) new image) k []
      each k h = elim (cases_eq k (first + n)) [
        | inl e ↦
            ap (λ j. get_or (set (patched first n new image) (first + n) (new n)) j []) e
            ∙ get_or-set_same (patched first n new image) (first + n) (new n) [] (rw length_patched inside)
            ∙ sym (patched_at (n + 1) k h ∙ same n k e)
        | inr ne ↦
            get_or-set_other (patched first n new image) (first + n) k (new n) [] ne
            ∙ patched_at n k h ∙ sym (other n k ne) ∙ sym (patched_at (n + 1) k h)
      ]

-- an entry's data sector by sector, and zeros where there are none
nth_of_data : (e : Item) (i : ℕ) → i < sectors_of e → get_or (map (sector_at (data_of e)) (range_with_len 0 (length (data_of e) / 512))) i (replicate 512 0) ≡ nth e i
nth_of_data (write sector fl fua meta content) i h = get_or-map-range_with_len (sector_at content) 0 (length content / 512) i i (replicate 512 0) h (omega arith)
nth_of_data (discard sector sectors fl meta) i h = refl
nth_of_data (flush sector fua dis meta) i h = absurd (omega arith)
nth_of_data (mark text) i h = absurd (omega arith)

pub nth_of_chunks : (e : Item) (i : ℕ) → i < sectors_of e → get_or (first_chunks 512 (length (data_of e) / 512) (data_of e)) i (replicate 512 0) ≡ nth e i
nth_of_chunks e i h = ap (λ xs. get_or xs i (replicate 512 0)) (chunks_are_sectors (data_of e) (length (data_of e) / 512)) ∙ nth_of_data e i h

-- what lies inside, where some sectors do not lie outside
pub lies_inside : (first sectors count i : ℕ) → i < sectors → false ≡ ltb 0 sectors && ltb count (first + sectors) → first + i < count
lies_inside first sectors count i h e = elim (and_cases (ltb 0 sectors) (ltb count (first + sectors)) (sym e)) [
  | inl z ↦ absurd (both_ways (ltb 0 sectors) z (lt-ltb 0 sectors (omega arith)))
  | inr z ↦ let l = ltb-false count (first + sectors) z in omega arith
]
