-- The walk over the entries gives the numbers.
use Rattle.std.proofs.Common.{◌≡◌, ℕ, zero, suc, ◌-◌, ◌<◌, ◌≤◌, Bool, true, false, cond, ◌⊎◌, List, [], ◌∷◌, map, length, drop, sym, refl, ap, ◌∙◌, subst, inl, inr, arith}
use Rattle.std.proofs.lemmas.List.{length_push, length-map, drop_at, drop-map, map_push}
use Rattle.std.proofs.lemmas.Bool.{cases_eq, cases_lt, both_ways}
use Rattle.crash.specs.Effects.{Effect}
use Rattle.crash.specs.Rules.{Recording, effect_at, Writes, Durable, StruckOut, HasNumber, Stands}
use Rattle.crash.specs.Lists.{◌∈◌, Ascending}
use Rattle.crash.specs.States.{is_writer, numbers}
use Rattle.crash.specs.Walk.{put, settle, turn, walk}
use Rattle.crash.proofs.Durability.{durable_upto, durable_later, durable_by_flush, durable_before, durable_at_once, at_once_by_fua}
use Rattle.crash.proofs.Members.{all_in, in_left, in_right, in_either, ascending_push, ascending_same}
use Rattle.crash.proofs.Numbering.{writer_decides, number_upto, newest, newest_stands, in_numbers, numbers_in, numbers_ascending}

-- what settling keeps
pub settle_put : {X : Type 0} (held : List X) (x : X) → settle (put held x) ≡ x ∷ []
settle_put held x =
    let l = length_push held x in
    let e : length held ≡ length (put held x) - 1 = omega arith in
    drop_at held (x ∷ []) (length (put held x) - 1) e

settle_more : {X : Type 0} (x y : X) (ys : List X) → settle (x ∷ y ∷ ys) ≡ settle (y ∷ ys)
settle_more x y ys =
    let a : suc (suc (length ys)) - 1 ≡ suc (length ys) = omega arith in
    let b : suc (length ys) - 1 ≡ length ys = omega arith in
    ap (λ n. drop n (x ∷ y ∷ ys)) a ∙ sym (ap (λ n. drop n (y ∷ ys)) b)

-- the newest of an ascending list is the greatest
in_settle : (xs : List ℕ) (j : ℕ) → Ascending xs → j ∈ settle xs → (j ∈ xs) × ((k : ℕ) → k ∈ xs → k ≤ j)
in_settle [] j a h = absurd h
in_settle (x ∷ []) j a (inl e) = (inl e, λ k h. elim h [ inl q ↦ omega arith | inr n ↦ absurd n ])
in_settle (x ∷ []) j a (inr h) = absurd h
in_settle (x ∷ y ∷ ys) j a h = go (in_settle (y ∷ ys) j a.1 (subst (λ (l : List ℕ). j ∈ l) (settle_more x y ys) h))
  where
    go : (j ∈ (y ∷ ys)) × ((k : ℕ) → k ∈ (y ∷ ys) → k ≤ j) → (j ∈ (x ∷ y ∷ ys)) × ((k : ℕ) → k ∈ (x ∷ y ∷ ys) → k ≤ j)
    go q = (inr q.0, top)
      where
        top : (k : ℕ) → k ∈ (x ∷ y ∷ ys) → k ≤ j
        top k (inl e) = let l = all_in (λ n. x < n) (y ∷ ys) j a.0 q.0 in omega arith
        top k (inr h) = q.1 k h

settle_in : (xs : List ℕ) (j : ℕ) → Ascending xs → j ∈ xs → ((k : ℕ) → k ∈ xs → k ≤ j) → j ∈ settle xs
settle_in [] j a h top = absurd h
settle_in (x ∷ []) j a h top = h
settle_in (x ∷ y ∷ ys) j a (inl e) top =
    let l = top y (inr (inl refl)) in
    let m = a.0.0 in
    let none : ⊥ = omega arith in
    absurd none
settle_in (x ∷ y ∷ ys) j a (inr h) top =
    subst (λ (l : List ℕ). j ∈ l) (sym (settle_more x y ys)) (settle_in (y ∷ ys) j a.1 h (λ k i. top k (inr i)))

settle_ascending : (xs : List ℕ) → Ascending xs → Ascending (settle xs)
settle_ascending [] a = tt
settle_ascending (x ∷ []) a = a
settle_ascending (x ∷ y ∷ ys) a = subst Ascending (sym (settle_more x y ys)) (settle_ascending (y ∷ ys) a.1)

-- a walk by values is the walk by numbers, with each number's value
module _ {X Y : Type 0} (f : X → Y) where
  map_settle : (xs : List X) → map f (settle xs) ≡ settle (map f xs)
  map_settle xs = sym (drop-map f (length xs - 1) xs) ∙ ap (λ n. drop (n - 1) (map f xs)) (sym (length-map xs f))

  map_flushed : (b : Bool) (xs : List X) → map f (cond b (settle xs) xs) ≡ cond b (settle (map f xs)) (map f xs)
  map_flushed true xs = map_settle xs
  map_flushed false xs = refl

  map_written : (writes fua : Bool) (x : X) (xs : List X) (ys : List Y) → map f xs ≡ ys →
      map f (cond writes (cond fua (settle (put (settle xs) x)) (put xs x)) xs) ≡
      cond writes (cond fua (settle (put (settle ys) (f x))) (put ys (f x))) ys
  map_written false fua x xs ys e = e
  map_written true false x xs ys e = map_push f xs x ∙ ap (λ l. put l (f x)) e
  map_written true true x xs ys e = ap (map f) (settle_put (settle xs) x) ∙ sym (settle_put (settle ys) (f x))

  map_turn : (e : Effect) (s : ℕ) (x : X) (xs : List X) → map f (turn e s x xs) ≡ turn e s (f x) (map f xs)
  map_turn e s x xs =
      map_written (is_writer e s) e.fua x (cond e.flush (settle xs) xs) (cond e.flush (settle (map f xs)) (map f xs)) (map_flushed e.flush xs)

module _ (d : Recording) (s : ℕ) where
  pub walk_map : {X : Type 0} (f : ℕ → X) (p : ℕ) → walk d s f p ≡ map f (walk d s (λ k. k) p)
  unfolding walk
  walk_map f zero = refl
  walk_map f (suc p) =
      ap (turn (effect_at d (suc p)) s (f (suc p))) (walk_map f p) ∙ sym (map_turn f (effect_at d (suc p)) s (suc p) (walk d s (λ k. k) p))

  -- the list holds just the numbers of which P holds, in order
  abbrev Lists : (ℕ → Type 0) → List ℕ → Type 0
  Lists P xs = Ascending xs × ((j : ℕ) → j ∈ xs → P j) × ((j : ℕ) → P j → j ∈ xs)

  module _ (p : ℕ) where
    -- j is a number of the sector at p, and no entry up to p strikes it out at p + 1
    abbrev Kept : ℕ → Type 0
    Kept j = HasNumber d p s j × ((k : ℕ) → j < k → k ≤ p → Writes (effect_at d k) s → Durable d (suc p) k → ⊥)

    stands_from_kept : (j : ℕ) → Kept j → Stands d p s j
    stands_from_kept j h = (h.0, λ q. h.1 q.0 q.1 (durable_upto d p q.0 q.3) q.2 (durable_later d p q.0 q.3))

    -- no write becomes durable at p + 1 that was not so at p
    kept_same : ((k : ℕ) → k ≤ p → Writes (effect_at d k) s → Durable d (suc p) k → Durable d p k) → (xs : List ℕ) → Lists (Stands d p s) xs → Lists Kept xs
    kept_same same xs l = (l.0, there, (λ j h. l.2 j (stands_from_kept j h)))
      where
        there : (j : ℕ) → j ∈ xs → Kept j
        there j h = let n = l.1 j h in (n.0, λ k a b w q. n.1 (k, a, w, same k b w q))

    -- the newest write becomes durable at p + 1
    kept_settled : ((k : ℕ) → k ≤ p → Writes (effect_at d k) s → k ≡ (newest d p s).0 → Durable d (suc p) k) → (xs : List ℕ) → Lists (Stands d p s) xs → Lists Kept (settle xs)
    kept_settled durable xs l = (settle_ascending xs l.0, there, back)
      where
        g : ℕ
        g = (newest d p s).0

        there : (j : ℕ) → j ∈ settle xs → Kept j
        there j h =
            let q = in_settle xs j l.0 h in
            let n = l.1 j q.0 in
            let top = q.1 g (l.2 g (newest_stands d p s)) in
            (n.0, λ k a b w u. let m = (newest d p s).2 k (inr (omega arith, b, w)) in omega arith)

        reach : (j : ℕ) → Kept j → HasNumber d p s g → g ≤ j
        reach j h (inl e) = omega arith
        reach j h (inr w) =
            elim (cases_lt j g) [ inl a ↦ absurd (h.1 g a w.1 w.2 (durable g w.1 w.2 refl)) | inr b ↦ b ]

        above : (j : ℕ) → Kept j → (k : ℕ) → HasNumber d p s k → k ≤ j
        above j h k n = let a = reach j h (newest d p s).1 in let b = (newest d p s).2 k n in omega arith

        back : (j : ℕ) → Kept j → j ∈ settle xs
        back j h = settle_in xs j l.0 (l.2 j (stands_from_kept j h)) (λ k i. above j h k (l.1 k i).0)

    kept_flushed : (b : Bool) → (effect_at d (suc p)).flush ≡ b → (xs : List ℕ) → Lists (Stands d p s) xs → Lists Kept (cond b (settle xs) xs)
    kept_flushed true f xs l = kept_settled (λ k b _ _. durable_by_flush d p k f b) xs l
    kept_flushed false f xs l = kept_same (λ k b _ q. durable_before d p k f b q) xs l

    -- the numbers at p + 1, from those that are kept
    number_next : (j : ℕ) → HasNumber d p s j → HasNumber d (suc p) s j
    number_next j (inl e) = inl e
    number_next j (inr h) = inr (h.0, (let a = h.1 in omega arith), h.2)

    number_now : (j : ℕ) → HasNumber d (suc p) s j → HasNumber d p s j ⊎ ((suc p ≡ j) × Writes (effect_at d (suc p)) s)
    number_now j (inl e) = inl (inl e)
    number_now j (inr h) =
        elim (cases_eq (suc p) j) [ inl e ↦ inr (e, subst (λ (n : ℕ). Writes (effect_at d n) s) (sym e) h.2) | inr f ↦ inl (inr (h.0, earlier f, h.2)) ]
      where
        earlier : (suc p ≡ j → ⊥) → j ≤ p
        earlier f = let a = h.1 in omega arith

    kept_from_stands : (j : ℕ) → HasNumber d p s j → Stands d (suc p) s j → Kept j
    kept_from_stands j h n = (h, λ k a b w q. n.1 (k, a, w, q))

    stands_next : (Writes (effect_at d (suc p)) s → Durable d (suc p) (suc p) → ⊥) → (j : ℕ) → Kept j → Stands d (suc p) s j
    stands_next calm j h = (number_next j h.0, struck)
      where
        struck : StruckOut d (suc p) s j → ⊥
        struck q =
            elim (cases_eq q.0 (suc p)) [
              | inl e ↦ calm (subst (λ (n : ℕ). Writes (effect_at d n) s) e q.2) (subst (λ (n : ℕ). Durable d (suc p) n) e q.3)
              | inr f ↦ h.1 q.0 q.1 (earlier f) q.2 q.3
            ]
          where
            earlier : (q.0 ≡ suc p → ⊥) → q.0 ≤ p
            earlier f = let a = durable_upto d (suc p) q.0 q.3 in omega arith

    stands_new : Writes (effect_at d (suc p)) s → Stands d (suc p) s (suc p)
    stands_new w = (inr (omega arith, omega arith, w), λ q. let a = q.1 in let b = durable_upto d (suc p) q.0 q.3 in omega arith)

    -- entry p + 1 does not write the sector
    next_unwritten : (Writes (effect_at d (suc p)) s → ⊥) → (xs : List ℕ) → Lists Kept xs → Lists (Stands d (suc p) s) xs
    next_unwritten f xs l = (l.0, (λ j h. stands_next (λ w q. f w) j (l.1 j h)), back)
      where
        back : (j : ℕ) → Stands d (suc p) s j → j ∈ xs
        back j n = elim (number_now j n.0) [ inl h ↦ l.2 j (kept_from_stands j h n) | inr w ↦ absurd (f w.1) ]

    -- it writes it, and its write is not yet durable
    next_written : Writes (effect_at d (suc p)) s → (Durable d (suc p) (suc p) → ⊥) → (xs : List ℕ) → Lists Kept xs → Lists (Stands d (suc p) s) (put xs (suc p))
    next_written w f xs l = (ascending_push xs (suc p) l.0 (λ j h. let a = number_upto d p s j (l.1 j h).0 in omega arith), there, back)
      where
        there : (j : ℕ) → j ∈ put xs (suc p) → Stands d (suc p) s j
        there j h =
            elim (in_either j xs (suc p ∷ []) h) [
              | inl a ↦ stands_next (λ _. f) j (l.1 j a)
              | inr b ↦ elim b [ inl e ↦ subst (Stands d (suc p) s) e (stands_new w) | inr n ↦ absurd n ]
            ]

        back : (j : ℕ) → Stands d (suc p) s j → j ∈ put xs (suc p)
        back j n =
            elim (number_now j n.0) [ inl h ↦ in_left j xs (suc p ∷ []) (l.2 j (kept_from_stands j h n)) | inr e ↦ in_right j xs (suc p ∷ []) (inl e.0) ]

    -- it writes it, and its write is durable at once
    next_durable : Writes (effect_at d (suc p)) s → Durable d (suc p) (suc p) → Lists (Stands d (suc p) s) (suc p ∷ [])
    next_durable w q = ((tt, tt), there, back)
      where
        there : (j : ℕ) → j ∈ (suc p ∷ []) → Stands d (suc p) s j
        there j (inl e) = subst (Stands d (suc p) s) e (stands_new w)
        there j (inr n) = absurd n

        back : (j : ℕ) → Stands d (suc p) s j → j ∈ (suc p ∷ [])
        back j n =
            elim (number_now j n.0) [ inl h ↦ absurd (n.1 (suc p, (let a = number_upto d p s j h in omega arith), w, q)) | inr e ↦ inl e.0 ]

    next : (wr fua : Bool) → is_writer (effect_at d (suc p)) s ≡ wr → (effect_at d (suc p)).fua ≡ fua → (xs : List ℕ) → Lists Kept xs →
        Lists (Stands d (suc p) s) (cond wr (cond fua (settle (put (settle xs) (suc p))) (put xs (suc p))) xs)
    next false fua a b xs l =
        next_unwritten (λ w. both_ways (is_writer (effect_at d (suc p)) s) a ((writer_decides (effect_at d (suc p)) s).1 w)) xs l
    next true false a b xs l =
        next_written ((writer_decides (effect_at d (suc p)) s).0 a) (λ q. both_ways (effect_at d (suc p)).fua b (at_once_by_fua d (suc p) q)) xs l
    next true true a b xs l =
        subst (Lists (Stands d (suc p) s)) (sym (settle_put (settle xs) (suc p)))
        (next_durable ((writer_decides (effect_at d (suc p)) s).0 a) (durable_at_once d (suc p) b))

  walk_lists : (p : ℕ) → Lists (Stands d p s) (walk d s (λ k. k) p)
  unfolding walk
  walk_lists zero = ((tt, tt), there, back)
    where
      there : (j : ℕ) → j ∈ (0 ∷ []) → Stands d 0 s j
      there j (inl e) = (inl (sym e), λ q. let a = q.1 in let b = durable_upto d 0 q.0 q.3 in omega arith)
      there j (inr n) = absurd n

      back : (j : ℕ) → Stands d 0 s j → j ∈ (0 ∷ [])
      back j n = let a = number_upto d 0 s j n.0 in inl (omega arith)
  walk_lists (suc p) =
      next p (is_writer (effect_at d (suc p)) s) (effect_at d (suc p)).fua refl refl (cond (effect_at d (suc p)).flush (settle (walk d s (λ k. k) p)) (walk d s (λ k. k) p))
      (kept_flushed p (effect_at d (suc p)).flush refl (walk d s (λ k. k) p) (walk_lists p))

  pub walk_numbers : (p : ℕ) → walk d s (λ k. k) p ≡ numbers d p s
  walk_numbers p =
      let l = walk_lists p in
      ascending_same (walk d s (λ k. k) p) (numbers d p s) l.0 (numbers_ascending d p s)
      (λ j h. numbers_in d p s j (l.1 j h))
      (λ j h. l.2 j (in_numbers d p s j h))
