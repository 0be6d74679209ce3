-- From a state that stands to the next.
use Rattle.std.proofs.Common.{◌≡◌, ℕ, ◌+◌, ◌<◌, true, false, eqb, List, [], ◌++◌, map, length, get_or, take, replicate, Some, None, Ok, Option, Result, sym, refl, ap, ◌∙◌, subst, inl, inr, arith}
use Rattle.std.proofs.lemmas.List.{get_or-take, take_at}
use Rattle.std.proofs.lemmas.Bool.{cases_lt, cases_Bool, not-false, eqb-true, ltb-false}
use Rattle.std.proofs.lemmas.Simd.{splat_is_map}
use Rattle.image.specs.Sectors.{Image, Shaped}
use Rattle.crash.specs.Rules.{Recording, written}
use Rattle.crash.specs.States.{candidates, states}
use Rattle.crash.specs.Ranks.{places_of, next}
use Rattle.crash.specs.Laws.{counts}
use Rattle.crash.proofs.Ranking.{places_zero, next_more, next_last}
use Rattle.crash.proofs.Stating.{states_count, states_some}
use Rattle.trace.specs.declared.steps.Trace.{Trace}
use Rattle.trace.specs.Meaning.{Whole, effects_of, recording_of}
use Rattle.points.specs.Moving.{ChangedFrom, Moved}
use Rattle.points.specs.declared.places.LengthsDiffer.{LengthsDiffer}
use Rattle.candidates.specs.Lists.{listed}
use Rattle.standing.specs.declared.choice.Choice.{Choice}
use Rattle.standing.specs.Places.{candidates_in, lists_in, counts_in, places_in, taken, chosen, differs, wavers, Put, MovedOn}
use Rattle.standing.specs.Standing.{Lists, Firsts, Stands, Onward}
use Rattle.standing.proofs.Picking.{counts_length, count_at, numbered_at, candidate_whole, place_below, state_at, state_length, state_is}

module _ (d : Recording) (p : ℕ) (c : Choice) (table : Lists d p c) where
  count_listed : (s : ℕ) → s < length d.base → get_or (counts_in c) s 0 ≡ length (candidates d p s)
  count_listed s l = sym (get_or-take (length d.base) (counts_in c) s 0 l) ∙ ap (λ (x : List ℕ). get_or x s 0) table.counts ∙ count_at d p s l

  -- what a sector takes is the candidate at its place
  chosen_at : (s : ℕ) → s < length d.base → get_or (places_in c) s 0 < length (candidates d p s) → chosen d c s ≡ get_or (candidates d p s) (get_or (places_in c) s 0) []
  chosen_at s l h = ap (λ (x : List ℕ). written d s (get_or x (get_or (places_in c) s 0) 0)) (table.numbers s l) ∙ numbered_at d p s (get_or (places_in c) s 0) h

  module _ (r : ℕ) (places : take (length d.base) (places_in c) ≡ places_of (counts d p) r) (h : r < length (states d p)) where
    place_at : (s : ℕ) → s < length d.base → get_or (places_in c) s 0 ≡ get_or (places_of (counts d p) r) s 0
    place_at s l = sym (get_or-take (length d.base) (places_in c) s 0 l) ∙ ap (λ (x : List ℕ). get_or x s 0) places

    chosen_place : (s : ℕ) → s < length d.base → chosen d c s ≡ get_or (candidates d p s) (get_or (places_of (counts d p) r) s 0) []
    chosen_place s l =
        let e = place_at s l in
        let b = place_below d p r h s l in
        chosen_at s l (omega arith) ∙ ap (λ (i : ℕ). get_or (candidates d p s) i []) e

    chosen_whole : (s : ℕ) → s < length d.base → Whole d.effects → length (get_or d.base s []) ≡ 512 → length (chosen d c s) ≡ 512
    chosen_whole s l w b = ap length (chosen_place s l) ∙ candidate_whole d p s (get_or (places_of (counts d p) r) s 0) w b (place_below d p r h s l)

-- the first state, over the base
pub lay_stands : (d : Recording) (p : ℕ) (c : Choice) (image : Image) → Shaped d.base → Put (differs c) (chosen d c) 0 (length d.base) d.base image →
    Whole d.effects → Lists d p c → Firsts d c → Stands d p 0 c image
lay_stands d p c image shaped put w table firsts =
    record {
      lists = table;
      places = places;
      rank = some;
      shows = state_is d p 0 some image put.size (λ s l. shown s l ∙ chosen_place d p c table 0 places some s l);
    }
  where
    some : 0 < length (states d p)
    some = states_some d p

    places : take (length d.base) (places_in c) ≡ places_of (counts d p) 0
    places =
        firsts
        ∙ ap (λ (n : ℕ). replicate {A = ℕ} n 0) (sym (counts_length d p))
        ∙ splat_is_map (counts d p) (length (counts d p)) 0 refl
        ∙ sym (places_zero (counts d p))

    shown : (s : ℕ) → s < length d.base → get_or image s [] ≡ chosen d c s
    shown s l = elim (cases_Bool (differs c s)) [
      | inl e ↦ put.done s (omega arith) l l e (chosen_whole d p c table 0 places some s l w (shaped.whole s l))
      | inr e ↦ put.undue s e ∙ ap (written d s) (sym (eqb-true (taken c s) 0 (not-false (eqb (taken c s) 0) e)))
    ]

-- the same where the overlay was emptied
pub lay_over : (base base' over image : Image) (t : Trace) (c : Choice) → base' ≡ base → over ≡ base → Shaped base' → Put (differs c) (chosen (recording_of base' t) c) 0 (length base') over image →
    (p : ℕ) → Whole (effects_of t) → Lists (recording_of base t) p c → Firsts (recording_of base t) c → Stands (recording_of base t) p 0 c image
lay_over base base' over image t c a b shaped put p w table firsts =
    let put₁ = subst (λ (x : Image). Put (differs c) (chosen (recording_of x t) c) 0 (length x) over image) a put in
    let put₂ = subst (λ (x : Image). Put (differs c) (chosen (recording_of base t) c) 0 (length base) x image) b put₁ in
    lay_stands (recording_of base t) p c image (subst (λ (x : Image). Shaped x) a shaped) put₂ w table firsts

-- a move within the first n places of rows of which the rest stays
moved_within : (n : ℕ) (counts before part rest : List ℕ) (o : Option ℕ) → length part ≡ n → Moved (take n counts) (take n before) part (Ok o) → MovedOn (take n counts) (take n before) (take n (part ++ rest)) o
moved_within n counts before part rest (Some i) l h = subst (λ (x : List ℕ). MovedOn (take n counts) (take n before) x (Some i)) (sym (take_at part rest n l)) (h.1, h.2)
moved_within n counts before part rest None l h = h.1

-- the same by rows that were built for it, and its answer
pub moved_rows : (n : ℕ) (counts before built row part rest after : List ℕ) (r : Result (Option ℕ) LengthsDiffer) (o : Option ℕ) → built ≡ counts → row ≡ before → r ≡ Ok o → length part ≡ n → after ≡ part ++ rest →
    Moved (take n built) (take n row) part r → MovedOn (take n counts) (take n before) (take n after) o
moved_rows n counts before built row part rest after r o a b e l f h =
    let h₁ = subst (λ (x : List ℕ). Moved (take n x) (take n row) part r) a h in
    let h₂ = subst (λ (x : List ℕ). Moved (take n counts) (take n x) part r) b h₁ in
    subst (λ (x : List ℕ). MovedOn (take n counts) (take n before) (take n x) o) (sym f) (moved_within n counts before part rest o l (subst (λ (x : Result (Option ℕ) LengthsDiffer). Moved (take n counts) (take n before) part x) e h₂))

pub lists_same : (c c' : Choice) → candidates_in c' ≡ candidates_in c → lists_in c' ≡ lists_in c
lists_same c c' e = ap (map listed) e

-- the next state, over the one that stands
module _ (d : Recording) (p r : ℕ) (c c' : Choice) (image image' : Image) (kept : lists_in c' ≡ lists_in c) (st : Stands d p r c image) where
  table : Lists d p c'
  table =
      record {
        numbers = λ s l. ap (λ (x : List (List ℕ)). get_or x s []) kept ∙ st.lists.numbers s l;
        counts = ap (λ (x : List (List ℕ)). take (length d.base) (map length x)) kept ∙ st.lists.counts;
      }

  -- the places by the table are those of the rank
  moved_next : (o : Option (List ℕ)) → next (take (length d.base) (counts_in c)) (take (length d.base) (places_in c)) ≡ o → next (counts d p) (places_of (counts d p) r) ≡ o
  moved_next o e = sym (ap (λ (x : List ℕ). next x (take (length d.base) (places_in c))) st.lists.counts ∙ ap (next (counts d p)) st.places) ∙ e

  -- a last state has no next
  last_none : r + 1 ≡ length (states d p) → next (counts d p) (places_of (counts d p) r) ≡ None
  last_none e = next_last (counts d p) r (e ∙ states_count d p)

  more_some : r + 1 < length (states d p) → next (counts d p) (places_of (counts d p) r) ≡ Some (places_of (counts d p) (r + 1))
  more_some h = next_more (counts d p) r (subst (λ (m : ℕ). r + 1 < m) (states_count d p) h)

  pub last_stays : next (take (length d.base) (counts_in c)) (take (length d.base) (places_in c)) ≡ None → r + 1 ≡ length (states d p)
  last_stays e = elim (cases_lt (r + 1) (length (states d p))) [
    | inl l ↦
        let a = more_some l in
        let b = moved_next None e in
        cc
    | inr g ↦ let h = st.rank in omega arith
  ]

  module _ (i : ℕ) (e : next (take (length d.base) (counts_in c)) (take (length d.base) (places_in c)) ≡ Some (take (length d.base) (places_in c')))
      (changed : ChangedFrom (take (length d.base) (places_in c)) (take (length d.base) (places_in c')) i)
      (shaped : Shaped d.base) (put : Put (wavers c') (chosen d c') i (length d.base) image image') (w : Whole d.effects) where
    rank_on : r + 1 < length (states d p)
    rank_on = elim (cases_lt (r + 1) (length (states d p))) [
      | inl l ↦ l
      | inr g ↦
          let h = st.rank in
          let a = last_none (omega arith) in
          let b = moved_next (Some (take (length d.base) (places_in c'))) e in
          cc
    ]

    places_on : take (length d.base) (places_in c') ≡ places_of (counts d p) (r + 1)
    places_on = let a = more_some rank_on in let b = moved_next (Some (take (length d.base) (places_in c'))) e in cc

    -- a sector whose place stays keeps its content
    stays : (s : ℕ) → s < length d.base → get_or image' s [] ≡ get_or image s [] → get_or (places_of (counts d p) r) s 0 ≡ get_or (places_of (counts d p) (r + 1)) s 0 →
        get_or image' s [] ≡ get_or (candidates d p s) (get_or (places_of (counts d p) (r + 1)) s 0) []
    stays s l same at =
        same
        ∙ ap (λ (x : Image). get_or x s []) st.shows
        ∙ state_at d p r st.rank s l
        ∙ ap (λ (k : ℕ). get_or (candidates d p s) k []) at

    early : (s : ℕ) → s < i → get_or (places_of (counts d p) r) s 0 ≡ get_or (places_of (counts d p) (r + 1)) s 0
    early s l =
        ap (λ (x : List ℕ). get_or x s 0) (sym st.places)
        ∙ sym (get_or-take i (take (length d.base) (places_in c)) s 0 l)
        ∙ ap (λ (x : List ℕ). get_or x s 0) (sym changed.stay)
        ∙ get_or-take i (take (length d.base) (places_in c')) s 0 l
        ∙ ap (λ (x : List ℕ). get_or x s 0) places_on

    -- a sector with one candidate has nowhere to go
    single : (s : ℕ) → s < length d.base → wavers c' s ≡ false → get_or (places_of (counts d p) r) s 0 ≡ get_or (places_of (counts d p) (r + 1)) s 0
    single s l h =
        let a = place_below d p r st.rank s l in
        let b = place_below d p (r + 1) rank_on s l in
        let k = count_listed d p c' table s l in
        let m = ltb-false 1 (get_or (counts_in c') s 0) h in
        omega arith

    shown : (s : ℕ) → s < length d.base → get_or image' s [] ≡ get_or (candidates d p s) (get_or (places_of (counts d p) (r + 1)) s 0) []
    shown s l = elim (cases_lt s i) [
      | inl a ↦ stays s l (put.low s a) (early s a)
      | inr a ↦ elim (cases_Bool (wavers c' s)) [
        | inl b ↦
            let size = ap length st.shows ∙ state_length d p r st.rank in
            put.done s a l (omega arith) b (chosen_whole d p c' table (r + 1) places_on rank_on s l w (shaped.whole s l))
            ∙ chosen_place d p c' table (r + 1) places_on rank_on s l
        | inr b ↦ stays s l (put.undue s b) (single s l b)
      ]
    ]

    pub on_stands : Onward d p r c' image' true
    on_stands = (
      rank_on,
      record {
        lists = table;
        places = places_on;
        rank = rank_on;
        shows = state_is d p (r + 1) rank_on image' (put.size ∙ ap length st.shows ∙ state_length d p r st.rank) shown;
      },
    )

-- the same over a trace and a base with n sectors
module _ (base image image' : Image) (t : Trace) (c c' : Choice) (n : ℕ) (e : n ≡ length base) where
  pub on_over : (i : ℕ) → Shaped base → lists_in c' ≡ lists_in c → MovedOn (take n (counts_in c)) (take n (places_in c)) (take n (places_in c')) (Some i) →
      Put (wavers c') (chosen (recording_of base t) c') i (length base) image image' → (p r : ℕ) → Whole (effects_of t) → Stands (recording_of base t) p r c image →
      Onward (recording_of base t) p r c' image' true
  on_over i shaped a moved put p r w st =
      let m = subst (λ (k : ℕ). MovedOn (take k (counts_in c)) (take k (places_in c)) (take k (places_in c')) (Some i)) e moved in
      on_stands (recording_of base t) p r c c' image image' a st i m.0 m.1 shaped put w

  pub last_over : next (take n (counts_in c)) (take n (places_in c)) ≡ None → (p r : ℕ) → Whole (effects_of t) → Stands (recording_of base t) p r c image → r + 1 ≡ length (states (recording_of base t) p)
  last_over none p r w st = last_stays (recording_of base t) p r c c image image refl st (subst (λ (k : ℕ). next (take k (counts_in c)) (take k (places_in c)) ≡ None) e none)
