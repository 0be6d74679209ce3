-- The states of a point, and the list of all points.
use Rattle.std.proofs.Common.{◌≡◌, ℕ, zero, suc, ◌+◌, ◌-◌, ◌<◌, ◌≤◌, List, [], ◌∷◌, length, get_or, sym, refl, ap, ◌∙◌, subst, inl, inr, zero-le, add-zero, zero-add, arith}
use Rattle.std.specs.List.{range_with_len, flat_map, AllByRecursion}
use Rattle.std.proofs.ByRecursion.{All-map}
use Rattle.image.specs.Sectors.{Sector, Image}
use Rattle.crash.specs.Rules.{Recording, Permitted}
use Rattle.crash.specs.Lists.{◌∈◌, Once, InOrder, Ascending}
use Rattle.crash.specs.States.{candidates, columns, states, State, ranked, points, list}
use Rattle.crash.specs.Ranks.{product, Within, pick, Before, places_of}
use Rattle.crash.specs.Laws.{counts, Earlier}
use Rattle.crash.proofs.Members.{all_in, all_from_in, in_joined, joined_in, in_counting, counting_in, ascending_counting, in_order_append, in_order_once}
use Rattle.crash.proofs.Numbering.{in_candidates, candidates_in, candidates_once, candidates_some}
use Rattle.crash.proofs.Choosing.{in_choices, choices_in, once_choices, length_choices, get_d_choices, takes_long, takes_at, takes_from}
use Rattle.crash.proofs.Ranking.{product_pos, places_within, rank_places, before_rank}

module _ (d : Recording) (p : ℕ) where
  pub in_states : (image : Image) → image ∈ states d p → Permitted d p image
  unfolding states columns
  in_states image h =
      let t = in_choices (columns d p) image h in
      let n = length d.base in (
        takes_long (candidates d p) [] 0 n image t,
        λ s l. in_candidates d p s (get_or image s [])
            (subst (λ (k : ℕ). get_or image s [] ∈ candidates d p k) (zero-add s) (takes_at (candidates d p) [] 0 n image t s l)),
      )

  pub states_in : (image : Image) → Permitted d p image → image ∈ states d p
  unfolding states columns
  states_in image h =
      let n = length d.base in
      choices_in (columns d p) image
      (takes_from (candidates d p) [] 0 n image h.0
      (λ s l. subst (λ (k : ℕ). get_or image s [] ∈ candidates d p k) (sym (zero-add s)) (candidates_in d p s (get_or image s []) (h.1 s l))))

  -- what holds of the candidates of each sector holds of each column
  all_columns : (P : List Sector → Type 0) → ((s : ℕ) → P (candidates d p s)) → AllByRecursion P (columns d p)
  unfolding columns
  all_columns P each =
      All-map P (candidates d p) (range_with_len 0 (length d.base)) (all_from_in (λ s. P (candidates d p s)) (range_with_len 0 (length d.base)) (λ s _. each s))

  pub states_once : Once (states d p)
  unfolding states
  states_once = once_choices (columns d p) (all_columns Once (candidates_once d p))

  pub states_count : length (states d p) ≡ product (counts d p)
  unfolding states
  states_count = length_choices (columns d p)

  pub states_some : 0 < length (states d p)
  states_some =
      let pos = product_pos (counts d p) (All-map (λ c. 0 < c) length (columns d p) (all_columns (λ col. 0 < length col) (candidates_some d p))) in
      let e = states_count in
      omega arith

  below : (r : ℕ) → r < length (states d p) → r < product (counts d p)
  below r h = let e = states_count in omega arith

  pub state_within : (r : ℕ) → r < length (states d p) → Within (counts d p) (places_of (counts d p) r)
  state_within r h = places_within (counts d p) r (below r h)

  pub state_image : (r : ℕ) → r < length (states d p) → get_or (states d p) r [] ≡ pick [] (columns d p) (places_of (counts d p) r)
  unfolding states
  state_image r h =
      ap (λ n. get_or (states d p) n []) (sym (rank_places (counts d p) r (below r h)))
      ∙ get_d_choices [] (columns d p) (places_of (counts d p) r) (state_within r h)

  pub state_order : (r t : ℕ) → r < t → t < length (states d p) → Before (places_of (counts d p) r) (places_of (counts d p) t)
  state_order r t l h =
      let low : r < length (states d p) = omega arith in
      let a = rank_places (counts d p) r (below r low) in
      let b = rank_places (counts d p) t (below t h) in
      before_rank (counts d p) (places_of (counts d p) r) (places_of (counts d p) t) (state_within r low) (state_within t h) (omega arith)

-- the states of a point with their ranks, from rank r on
module _ (p : ℕ) where
  in_ranked : (r : ℕ) (xs : List Image) (x : State) → x ∈ ranked p r xs →
      (x.point ≡ p) × (r ≤ x.rank) × (x.rank < r + length xs) × (x.image ≡ get_or xs (x.rank - r) [])
  in_ranked r [] x h = absurd h
  in_ranked r (y ∷ ys) x (inl e) =
      let a = ap (λ (z : State). z.point) e in
      let b = ap (λ (z : State). z.rank) e in
      let c = ap (λ (z : State). z.image) e in
      let q : 0 ≡ x.rank - r = omega arith in
      (sym a, omega arith, omega arith, sym c ∙ ap (λ n. get_or (y ∷ ys) n []) q)
  in_ranked r (y ∷ ys) x (inr h) =
      let i = in_ranked (r + 1) ys x h in
      let a = i.1 in
      let b = i.2 in
      let q : suc (x.rank - (r + 1)) ≡ x.rank - r = omega arith in
      (i.0, omega arith, omega arith, i.3 ∙ ap (λ n. get_or (y ∷ ys) n []) q)

  ranked_in : (r : ℕ) (xs : List Image) (i : ℕ) (x : State) → i < length xs → x.point ≡ p → x.rank ≡ r + i → x.image ≡ get_or xs i [] → x ∈ ranked p r xs
  ranked_in r [] i x l a b c = let none : ⊥ = omega arith in absurd none
  ranked_in r (y ∷ ys) zero x l a b c =
      let q : x.rank ≡ r = b ∙ add-zero r in
      inl (λ k. record { point = sym a k; rank = sym q k; image = sym c k })
  ranked_in r (y ∷ ys) (suc i) x l a b c = inr (ranked_in (r + 1) ys i x (omega arith) a (omega arith) c)

  ranked_order : (r : ℕ) (xs : List Image) → InOrder Earlier (ranked p r xs)
  ranked_order r [] = tt
  ranked_order r (x ∷ xs) = (
    all_from_in (Earlier (record { point = p; rank = r; image = x })) (ranked p (r + 1) xs)
        (λ y h. let q = in_ranked (r + 1) xs y h in let a = q.1 in inr (sym q.0, omega arith)),
    ranked_order (r + 1) xs,
  )

module _ (d : Recording) where
  pub in_points : (p : ℕ) → p ∈ points d → p ≤ length d.effects
  unfolding points
  in_points p h = let q = (in_counting 0 (length d.effects + 1) p h).1 in omega arith

  pub points_in : (p : ℕ) → p ≤ length d.effects → p ∈ points d
  unfolding points
  points_in p h = counting_in 0 (length d.effects + 1) p zero-le (omega arith)

  pub points_ascending : Ascending (points d)
  unfolding points
  points_ascending = ascending_counting 0 (length d.effects + 1)

  at : ℕ → List State
  at p = ranked p 0 (states d p)

  pub in_list : (x : State) → x ∈ list d →
      (x.point ≤ length d.effects) × (x.rank < length (states d x.point)) × (x.image ≡ get_or (states d x.point) x.rank [])
  unfolding list at
  in_list x h =
      let q = in_joined at (points d) x h in
      let i = in_ranked q.0 0 (states d q.0) x q.2 in
      let n = in_points q.0 q.1 in
      let a = i.0 in
      let b = i.2 in
      let z : x.rank - 0 ≡ x.rank = omega arith in (
        omega arith,
        subst (λ (k : ℕ). x.rank < length (states d k)) (sym a) (omega arith),
        subst (λ (k : ℕ). x.image ≡ get_or (states d k) x.rank []) (sym a) (i.3 ∙ ap (λ n. get_or (states d q.0) n []) z),
      )

  pub list_in : (x : State) → x.point ≤ length d.effects → x.rank < length (states d x.point) → x.image ≡ get_or (states d x.point) x.rank [] → x ∈ list d
  unfolding list at
  list_in x a b c =
      joined_in at (points d) x.point x (points_in x.point a)
      (ranked_in x.point 0 (states d x.point) x.rank x b refl (sym (zero-add x.rank)) c)

  -- the states of ascending points stand in order
  points_order : (ps : List ℕ) → Ascending ps → InOrder Earlier (flat_map at ps)
  unfolding at
  points_order [] o = tt
  points_order (p ∷ ps) o =
      in_order_append Earlier (at p) (flat_map at ps) (ranked_order p 0 (states d p)) (points_order ps o.1)
      (λ x y h k.
      let q = in_joined at ps y k in
      let l = all_in (λ n. p < n) ps q.0 o.0 q.1 in
      let u = (in_ranked p 0 (states d p) x h).0 in
      let v = (in_ranked q.0 0 (states d q.0) y q.2).0 in
      inl (omega arith))

  pub list_order : InOrder Earlier (list d)
  unfolding list at
  list_order = points_order (points d) points_ascending

  -- no state stands before itself
  not_earlier : (x : State) → Earlier x x → ⊥
  not_earlier x (inl l) = omega arith
  not_earlier x (inr h) = let l = h.1 in omega arith

  pub list_once : Once (list d)
  list_once = in_order_once Earlier not_earlier (list d) list_order
