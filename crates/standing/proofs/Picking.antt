-- The states of a point, sector by sector.
use Rattle.std.proofs.Common.{◌≡◌, ℕ, zero, suc, ◌<◌, List, [], ◌∷◌, map, length, get_or, sym, refl, ap, ◌∙◌, subst, inl, inr, arith}
use Rattle.std.proofs.lemmas.List.FromFn.{length-map-range_with_len, get_or-map-range_with_len}
use Rattle.std.proofs.lemmas.List.{length-map, get_or-map, ext_get_or}
use Rattle.std.proofs.lemmas.List.Elements.{length_all_zip, AllZip-get_or}
use Rattle.image.specs.Sectors.{Sector, Image}
use Rattle.crash.specs.Rules.{Recording, effect_at, HasNumber, written}
use Rattle.crash.specs.States.{numbers, candidates, candidate_numbers, columns, states}
use Rattle.crash.specs.Ranks.{pick, places_of}
use Rattle.crash.specs.Laws.{counts}
use Rattle.crash.proofs.Members.{in_get_d}
use Rattle.crash.proofs.Repeating.{map_firsts}
use Rattle.crash.proofs.Numbering.{writer_decides, in_candidates}
use Rattle.crash.proofs.Stating.{state_within, state_image}
use Rattle.trace.specs.Meaning.{Whole}

module _ {X : Type 0} (x : X) where
  pick_length : (cols : List (List X)) (places : List ℕ) → length cols ≡ length places → length (pick x cols places) ≡ length cols
  pick_length [] places e = refl
  pick_length (col ∷ cols) [] e = absurd (omega arith)
  pick_length (col ∷ cols) (i ∷ places) e = ap suc (pick_length cols places (omega arith))

  pick_at : (cols : List (List X)) (places : List ℕ) (s : ℕ) → length cols ≡ length places → s < length cols → get_or (pick x cols places) s x ≡ get_or (get_or cols s []) (get_or places s 0) x
  pick_at [] places s e l = absurd (omega arith)
  pick_at (col ∷ cols) [] s e l = absurd (omega arith)
  pick_at (col ∷ cols) (i ∷ places) zero e l = refl
  pick_at (col ∷ cols) (i ∷ places) (suc s) e l = pick_at cols places s (omega arith) (omega arith)

module _ (d : Recording) (p : ℕ) where
  columns_length : length (columns d p) ≡ length d.base
  unfolding columns
  columns_length = length-map-range_with_len (candidates d p) 0 (length d.base)

  column_at : (s : ℕ) → s < length d.base → get_or (columns d p) s [] ≡ candidates d p s
  unfolding columns
  column_at s l = get_or-map-range_with_len (candidates d p) 0 (length d.base) s s [] l (omega arith)

  pub counts_length : length (counts d p) ≡ length d.base
  counts_length = length-map (columns d p) length ∙ columns_length

  pub count_at : (s : ℕ) → s < length d.base → get_or (counts d p) s 0 ≡ length (candidates d p s)
  count_at s l = let e = columns_length in get_or-map length (columns d p) s [] 0 (omega arith) ∙ ap length (column_at s l)

  -- the candidates and their numbers
  numbered : (s : ℕ) → candidates d p s ≡ map (written d s) (candidate_numbers d p s)
  unfolding candidates candidate_numbers
  numbered s = sym (map_firsts (written d s) (numbers d p s))

  pub numbers_length : (s : ℕ) → length (candidate_numbers d p s) ≡ length (candidates d p s)
  numbers_length s = sym (ap length (numbered s) ∙ length-map (candidate_numbers d p s) (written d s))

  pub numbered_at : (s i : ℕ) → i < length (candidates d p s) → written d s (get_or (candidate_numbers d p s) i 0) ≡ get_or (candidates d p s) i []
  numbered_at s i l =
      let e = numbers_length s in
      sym (ap (λ (x : List Sector). get_or x i []) (numbered s) ∙ get_or-map (written d s) (candidate_numbers d p s) i 0 [] (omega arith))

  -- a candidate is a whole sector
  written_whole : (s j : ℕ) → Whole d.effects → length (get_or d.base s []) ≡ 512 → HasNumber d p s j → length (written d s j) ≡ 512
  written_whole s zero w b h = b
  written_whole s (suc i) w b (inl e) = absurd (omega arith)
  written_whole s (suc i) w b (inr h) = w i s ((writer_decides (effect_at d (suc i)) s).1 h.2)

  pub candidate_whole : (s i : ℕ) → Whole d.effects → length (get_or d.base s []) ≡ 512 → i < length (candidates d p s) → length (get_or (candidates d p s) i []) ≡ 512
  candidate_whole s i w b l =
      let c = in_candidates d p s (get_or (candidates d p s) i []) (in_get_d (candidates d p s) i [] l) in
      sym (ap length c.2) ∙ written_whole s c.0 w b c.1.0

  module _ (r : ℕ) (h : r < length (states d p)) where
    pub places_length : length (places_of (counts d p) r) ≡ length d.base
    places_length = sym (length_all_zip (λ c i. i < c) (counts d p) (places_of (counts d p) r) (state_within d p r h)) ∙ counts_length

    pub place_below : (s : ℕ) → s < length d.base → get_or (places_of (counts d p) r) s 0 < length (candidates d p s)
    place_below s l =
        let e = counts_length in
        subst (λ (n : ℕ). get_or (places_of (counts d p) r) s 0 < n) (count_at s l) (AllZip-get_or (λ c i. i < c) (counts d p) (places_of (counts d p) r) s 0 0 (state_within d p r h) (omega arith))

    sized : length (columns d p) ≡ length (places_of (counts d p) r)
    sized = columns_length ∙ sym places_length

    -- the state of a rank has the candidates at its places
    pub state_at : (s : ℕ) → s < length d.base → get_or (get_or (states d p) r []) s [] ≡ get_or (candidates d p s) (get_or (places_of (counts d p) r) s 0) []
    state_at s l =
        let e = columns_length in
        ap (λ (x : Image). get_or x s []) (state_image d p r h)
        ∙ pick_at [] (columns d p) (places_of (counts d p) r) s sized (omega arith)
        ∙ ap (λ (x : List Sector). get_or x (get_or (places_of (counts d p) r) s 0) []) (column_at s l)

    pub state_length : length (get_or (states d p) r []) ≡ length d.base
    state_length = ap length (state_image d p r h) ∙ pick_length [] (columns d p) (places_of (counts d p) r) sized ∙ columns_length

    -- an image that has them is that state
    pub state_is : (image : Image) → length image ≡ length d.base → ((s : ℕ) → s < length d.base → get_or image s [] ≡ get_or (candidates d p s) (get_or (places_of (counts d p) r) s 0) []) →
        image ≡ get_or (states d p) r []
    state_is image e each =
        ext_get_or [] image (get_or (states d p) r []) (e ∙ sym state_length)
        (λ s l. let k : s < length d.base = omega arith in each s k ∙ sym (state_at s k))
