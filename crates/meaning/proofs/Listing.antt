-- The law's list of states is the rules'.
use Rattle.std.proofs.Common.{◌≡◌, ℕ, zero, suc, ◌+◌, ◌≤◌, List, [], ◌∷◌, ◌++◌, map, length, take, get_or, sym, refl, ap, ◌∙◌, append-nil, arith}
use Rattle.std.specs.List.{range_with_len, flat_map}
use Rattle.std.proofs.lemmas.List.{length-map, length-take-le, map-append}
use Rattle.std.proofs.Math.Seq.{take-suc, take-length}
use Rattle.std.proofs.lemmas.Grind.{flat_map-append}
use Rattle.image.specs.Sectors.{Image}
use Rattle.tree.specs.declared.node.Node.{Node}
use Rattle.recording.specs.Items.{Item}
use Rattle.filesystem.specs.Outcomes.{Outcome}
use Rattle.crash.specs.Effects.{effect_of}
use Rattle.crash.specs.Rules as C
use Rattle.crash.specs.States as S
use Rattle.law.specs.Subject.{Recording, State, ranks, front, list}
use Rattle.meaning.specs.Meanings.{writes_of, meaning_of}
use Rattle.meaning.specs.Subjects.{stated, imaged}

-- one more number
range_more : (a n m : ℕ) → a + n ≡ m → range_with_len a (suc n) ≡ range_with_len a n ++ m ∷ []
range_more a zero m e = ap (λ (i : ℕ). i ∷ []) (let q : a ≡ m = omega arith in q)
range_more a (suc n) m e = ap (λ (t : List ℕ). a ∷ t) (range_more (a + 1) n m (omega arith))

-- states with their ranks, from r on
ranked_append : (p r m : ℕ) (xs ys : List Image) → r + length xs ≡ m → S.ranked p r (xs ++ ys) ≡ S.ranked p r xs ++ S.ranked p m ys
ranked_append p r m [] ys e = ap (λ (i : ℕ). S.ranked p i ys) (let q : r ≡ m = omega arith in q)
ranked_append p r m (x ∷ xs) ys e = ap (λ (t : List S.State). record { point = p; rank = r; image = x } ∷ t) (ranked_append p (r + 1) m xs ys (omega arith))

module _ (outcome : Image → Outcome) (base : Image) (nodes : List Node) (items : List Item) where
  abbrev d : C.Recording
  d = writes_of base items

  abbrev R : Recording
  R = meaning_of outcome base nodes items

  -- ONE POINT: its first k states
  first_states : (p k : ℕ) → k ≤ length (S.states d p) → map (imaged R) (ranks p k) ≡ map stated (S.ranked p 0 (take k (S.states d p)))
  first_states p zero l = refl
  first_states p (suc k) l =
      let xs : List Image = S.states d p in
      let x : Image = get_or xs k [] in
      let n : length (take k xs) ≡ k = length-take-le k xs (omega arith) in
      map-append (imaged R) (ranks p k) ((p, k) ∷ [])
      ∙ ap (λ (t : List (State × Image)). t ++ ((p, k), x) ∷ []) (first_states p k (omega arith))
      ∙ sym (map-append stated (S.ranked p 0 (take k xs)) (S.ranked p k (x ∷ [])))
      ∙ ap (λ (t : List S.State). map stated t) (sym (ranked_append p 0 k (take k xs) (x ∷ []) (let e : 0 + length (take k xs) ≡ k = omega arith in e)))
      ∙ ap (λ (t : List Image). map stated (S.ranked p 0 t)) (sym (take-suc xs k [] l))

  all_states : (p : ℕ) → map (imaged R) (ranks p (length (S.states d p))) ≡ map stated (S.ranked p 0 (S.states d p))
  all_states p =
      let xs : List Image = S.states d p in
      first_states p (length xs) (omega arith) ∙ ap (λ (t : List Image). map stated (S.ranked p 0 t)) (take-length xs)

  abbrev at : ℕ → List S.State
  at p = S.ranked p 0 (S.states d p)

  -- THE FIRST n POINTS
  first_points : (n : ℕ) → map (imaged R) (front R n) ≡ map stated (flat_map at (range_with_len 0 n))
  first_points zero = refl
  first_points (suc n) =
      map-append (imaged R) (front R n) (ranks n (length (S.states d n)))
      ∙ ap (λ (t : List (State × Image)). t ++ map (imaged R) (ranks n (length (S.states d n)))) (first_points n)
      ∙ ap (λ (t : List (State × Image)). map stated (flat_map at (range_with_len 0 n)) ++ t) (all_states n)
      ∙ sym (map-append stated (flat_map at (range_with_len 0 n)) (at n))
      ∙ ap (λ (t : List S.State). map stated t) (whole n)
    where
      whole : (n : ℕ) → flat_map at (range_with_len 0 n) ++ at n ≡ flat_map at (range_with_len 0 (suc n))
      whole n =
          ap (λ (t : List S.State). flat_map at (range_with_len 0 n) ++ t) (sym (append-nil (at n)))
          ∙ sym (flat_map-append at (range_with_len 0 n) (n ∷ []))
          ∙ ap (flat_map at) (sym (range_more 0 n n (let e : 0 + n ≡ n = omega arith in e)))

  pub lists : map (imaged R) (list R) ≡ map stated (S.list d)
  unfolding S.list S.points
  lists =
      let e : suc (length items) ≡ length (map effect_of items) + 1 = omega (arith, length-map items effect_of) in
      first_points (suc (length items)) ∙ ap (λ (n : ℕ). map stated (flat_map at (range_with_len 0 n))) e
