-- The numbers and the candidates of a sector are those of the rules.
use Rattle.std.proofs.Common.{◌≡◌, ℕ, zero, suc, ◌+◌, ◌<◌, ◌≤◌, true, false, not, ◌&&◌, eqb, ltb, leb, ◌⊎◌, List, [], ◌∷◌, map, length, get_or, Decides, refl, subst, inl, inr, zero-le, arith}
use Rattle.std.specs.List.{range_with_len}
use Rattle.std.proofs.lemmas.Bool.{cases_Bool, cases_eq, both_ways}
use Rattle.std.proofs.lemmas.Bool.Decides.{Decides-eqb, Decides-ltb, Decides-and, Decides-or, Decides-not, Decides-like}
use Rattle.image.specs.Sectors.{Sector}
use Rattle.crash.specs.Effects.{Effect}
use Rattle.crash.specs.Rules.{Recording, effect_at, Writes, Durable, StruckOut, HasNumber, Stands, Candidate, written}
use Rattle.crash.specs.Lists.{◌∈◌, Once, InOrder, Ascending}
use Rattle.crash.specs.States.{is_writer, is_durable, is_struck_out, is_number, is_standing, numbers, candidates, candidate_numbers}
use Rattle.crash.specs.Laws.{Sooner}
use Rattle.crash.proofs.Deciding.{decides_leb, some_decides}
use Rattle.crash.proofs.Durability.{durable_decides, durable_upto}
use Rattle.crash.proofs.Members.{in_kept, kept_in, counting_in, in_map, map_in, in_distinct, distinct_in, once_distinct, ascending_counting, in_order_kept, in_order_weaker, SoonerOf, distinct_order, in_firsts, firsts_in, ascending_firsts, place_of}

-- a list in which something stands
pub some_in : {X : Type 0} (x : X) (xs : List X) → x ∈ xs → 0 < length xs
some_in x xs h = let q = place_of x xs x h in let a = q.1 in omega arith

pub writer_decides : (e : Effect) (s : ℕ) → Decides (is_writer e s) (Writes e s)
writer_decides e s =
    Decides-and (leb e.first s) (ltb s (e.first + length e.contents)) (decides_leb e.first s)
    (Decides-ltb s (e.first + length e.contents))

module _ (d : Recording) where
  struck_decides : (p s j : ℕ) → Decides (is_struck_out d p s j) (StruckOut d p s j)
  struck_decides p s j =
      Decides-like (is_struck_out d p s j)
      (λ h. (h.0, h.2.0, h.2.1.0, h.2.1.1))
      (λ h. (h.0, (let a = durable_upto d p h.0 h.3 in omega arith), (h.1, (h.2, h.3))))
      (some_decides (λ k. ltb j k && (is_writer (effect_at d k) s && is_durable d p k)) (λ k. (j < k) × (Writes (effect_at d k) s × Durable d p k))
      (λ k. Decides-and (ltb j k) (is_writer (effect_at d k) s && is_durable d p k) (Decides-ltb j k)
      (Decides-and (is_writer (effect_at d k) s) (is_durable d p k) (writer_decides (effect_at d k) s) (durable_decides d p k))) (p + 1))

  number_decides : (p s j : ℕ) → Decides (is_number d p s j) (HasNumber d p s j)
  number_decides p s j =
      Decides-or (eqb j 0) (leb 1 j && (leb j p && is_writer (effect_at d j) s)) (Decides-eqb j 0)
      (Decides-like (leb 1 j && (leb j p && is_writer (effect_at d j) s)) (λ h. (h.0, h.1.0, h.1.1)) (λ h. (h.0, (h.1, h.2)))
      (Decides-and (leb 1 j) (leb j p && is_writer (effect_at d j) s) (decides_leb 1 j)
      (Decides-and (leb j p) (is_writer (effect_at d j) s) (decides_leb j p) (writer_decides (effect_at d j) s))))

  standing_decides : (p s j : ℕ) → Decides (is_standing d p s j) (Stands d p s j)
  standing_decides p s j =
      Decides-and (is_number d p s j) (not (is_struck_out d p s j)) (number_decides p s j)
      (Decides-not (is_struck_out d p s j) (struck_decides p s j))

  pub number_upto : (p s j : ℕ) → HasNumber d p s j → j ≤ p
  number_upto p s j (inl e) = omega arith
  number_upto p s j (inr h) = h.1

  pub in_numbers : (p s j : ℕ) → j ∈ numbers d p s → Stands d p s j
  unfolding numbers
  in_numbers p s j h = (standing_decides p s j).0 (in_kept (is_standing d p s) (range_with_len 0 (p + 1)) j h).1

  pub numbers_in : (p s j : ℕ) → Stands d p s j → j ∈ numbers d p s
  unfolding numbers
  numbers_in p s j n =
      let low = number_upto p s j n.0 in
      kept_in (is_standing d p s) (range_with_len 0 (p + 1)) j (counting_in 0 (p + 1) j zero-le (omega arith)) ((standing_decides p s j).1 n)

  pub numbers_ascending : (p s : ℕ) → Ascending (numbers d p s)
  unfolding numbers
  numbers_ascending p s = in_order_kept (λ j k. j < k) (is_standing d p s) (range_with_len 0 (p + 1)) (ascending_counting 0 (p + 1))

  -- the newest content of a sector is never struck out
  pub newest : (p s : ℕ) → (g : ℕ) × HasNumber d p s g × ((k : ℕ) → HasNumber d p s k → k ≤ g)
  newest zero s = (0, inl refl, number_upto 0 s)
  newest (suc p) s = go (newest p s) (cases_Bool (is_writer (effect_at d (suc p)) s))
    where
      go : (g : ℕ) × HasNumber d p s g × ((k : ℕ) → HasNumber d p s k → k ≤ g) → (is_writer (effect_at d (suc p)) s ≡ true) ⊎ (is_writer (effect_at d (suc p)) s ≡ false) →
          (g : ℕ) × HasNumber d (suc p) s g × ((k : ℕ) → HasNumber d (suc p) s k → k ≤ g)
      go q (inl w) = (suc p, inr (omega arith, omega arith, (writer_decides (effect_at d (suc p)) s).0 w), number_upto (suc p) s)
      go q (inr w) = (q.0, later q.0 q.1, below)
        where
          later : (k : ℕ) → HasNumber d p s k → HasNumber d (suc p) s k
          later k (inl e) = inl e
          later k (inr h) = inr (h.0, (let a = h.1 in omega arith), h.2)

          below : (k : ℕ) → HasNumber d (suc p) s k → k ≤ q.0
          below k (inl e) = omega arith
          below k (inr h) =
              elim (cases_eq k (suc p)) [
                | inl e ↦ absurd (both_ways (is_writer (effect_at d (suc p)) s) w ((writer_decides (effect_at d (suc p)) s).1 (subst (λ (n : ℕ). Writes (effect_at d n) s) e h.2)))
                | inr f ↦ q.2 k (inr (h.0, earlier f, h.2))
              ]
            where
              earlier : (k ≡ suc p → ⊥) → k ≤ p
              earlier f = let a = h.1 in omega arith

  pub newest_stands : (p s : ℕ) → Stands d p s (newest p s).0
  newest_stands p s =
      let q = newest p s in (
        q.1,
        λ h.
            let a = h.1 in
            let k = q.2 h.0 (inr (omega arith, durable_upto d p h.0 h.3, h.2)) in
            omega arith,
      )

  pub numbers_some : (p s : ℕ) → 0 < length (numbers d p s)
  numbers_some p s = some_in (newest p s).0 (numbers d p s) (numbers_in p s (newest p s).0 (newest_stands p s))

  pub in_candidates : (p s : ℕ) (c : Sector) → c ∈ candidates d p s → Candidate d p s c
  unfolding candidates
  in_candidates p s c h =
      let q = in_map (written d s) (numbers d p s) c (in_distinct (map (written d s) (numbers d p s)) c h) in
      (q.0, in_numbers p s q.0 q.1, q.2)

  pub candidates_in : (p s : ℕ) (c : Sector) → Candidate d p s c → c ∈ candidates d p s
  unfolding candidates
  candidates_in p s c h =
      distinct_in (map (written d s) (numbers d p s)) c
      (subst (λ (x : Sector). x ∈ map (written d s) (numbers d p s)) h.2
      (map_in (written d s) (numbers d p s) h.0 (numbers_in p s h.0 h.1)))

  pub candidates_once : (p s : ℕ) → Once (candidates d p s)
  unfolding candidates
  candidates_once p s = once_distinct (map (written d s) (numbers d p s))

  pub candidates_order : (p s : ℕ) → InOrder (Sooner d p s) (candidates d p s)
  unfolding candidates
  candidates_order p s =
      in_order_weaker (SoonerOf (written d s) (numbers d p s)) (Sooner d p s) (candidates d p s)
      (λ a b _ _ h. (h.0, in_numbers p s h.0 h.1, h.2, λ k n e. h.3 k (numbers_in p s k n) e))
      (distinct_order (written d s) (numbers d p s) (numbers_ascending p s))

  pub candidates_some : (p s : ℕ) → 0 < length (candidates d p s)
  candidates_some p s =
      let n = (newest p s).0 in
      some_in (written d s n) (candidates d p s) (candidates_in p s (written d s n) (n, newest_stands p s, refl))

  pub candidates_at_0 : (s : ℕ) → candidates d 0 s ≡ get_or d.base s [] ∷ []
  unfolding candidates numbers
  candidates_at_0 s = refl

  pub in_candidate_numbers : (p s j : ℕ) → j ∈ candidate_numbers d p s → Stands d p s j × ((k : ℕ) → Stands d p s k → written d s k ≡ written d s j → j ≤ k)
  unfolding candidate_numbers
  in_candidate_numbers p s j h =
      let q = in_firsts (written d s) (numbers d p s) (numbers_ascending p s) j h in
      (in_numbers p s j q.0, λ k n e. q.1 k (numbers_in p s k n) e)

  pub candidate_numbers_in : (p s j : ℕ) → Stands d p s j → ((k : ℕ) → Stands d p s k → written d s k ≡ written d s j → j ≤ k) → j ∈ candidate_numbers d p s
  unfolding candidate_numbers
  candidate_numbers_in p s j h f =
      firsts_in (written d s) (numbers d p s) (numbers_ascending p s) j (numbers_in p s j h) (λ k m e. f k (in_numbers p s k m) e)

  pub candidate_numbers_ascending : (p s : ℕ) → Ascending (candidate_numbers d p s)
  unfolding candidate_numbers
  candidate_numbers_ascending p s = ascending_firsts (written d s) (numbers d p s) (numbers_ascending p s)
