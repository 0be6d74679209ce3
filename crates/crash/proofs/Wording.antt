-- The words on lists, place by place.
use Rattle.std.proofs.Common.{◌≡◌, ℕ, zero, suc, ◌<◌, ◌≢◌, List, [], ◌∷◌, length, take, get_or, sym, refl, ap, ◌∙◌, subst, inl, inr, suc-le-suc, zero-le, le_of_suc-le-suc, arith}
use Rattle.std.proofs.lemmas.List.Elements.{length_all_zip, AllZip-get_or}
use Rattle.crash.specs.Lists.{◌∈◌, Once, InOrder}
use Rattle.crash.specs.Ranks.{Within, Before}
use Rattle.crash.proofs.Members.{in_get_d, place_of, all_in, all_from_in}

pub place_in : (x : ℕ) (xs : List ℕ) (i : ℕ) → i < length xs → get_or xs i 0 ≡ x → x ∈ xs
place_in x xs i h e = subst (λ y. y ∈ xs) e (in_get_d xs i 0 h)

pub once_apart : (xs : List ℕ) → Once xs → (i j : ℕ) → i < j → j < length xs → get_or xs i 0 ≢ get_or xs j 0
once_apart [] o i j l h e = let none : ⊥ = omega arith in none
once_apart (x ∷ xs) o i zero l h e = let none : ⊥ = omega arith in none
once_apart (x ∷ xs) o zero (suc j) l h e = o.0 (place_in x xs j (le_of_suc-le-suc h) (sym e))
once_apart (x ∷ xs) o (suc i) (suc j) l h e = once_apart xs o.1 i j (le_of_suc-le-suc l) (le_of_suc-le-suc h) e

pub apart_once : (xs : List ℕ) → ((i j : ℕ) → i < j → j < length xs → get_or xs i 0 ≢ get_or xs j 0) → Once xs
apart_once [] f = tt
apart_once (x ∷ xs) f = (
  (λ h. let q = place_of x xs 0 h in f 0 (suc q.0) (suc-le-suc zero-le) (suc-le-suc q.1) (sym q.2)),
  apart_once xs (λ i j l h. f (suc i) (suc j) (suc-le-suc l) (suc-le-suc h)),
)

module _ {X : Type 0} (R : X → X → Type 0) (d : X) where
  pub order_each : (xs : List X) → InOrder R xs → (i j : ℕ) → i < j → j < length xs → R (get_or xs i d) (get_or xs j d)
  order_each [] o i j l h = let none : ⊥ = omega arith in absurd none
  order_each (x ∷ xs) o i zero l h = let none : ⊥ = omega arith in absurd none
  order_each (x ∷ xs) o zero (suc j) l h = all_in (R x) xs (get_or xs j d) o.0 (in_get_d xs j d (le_of_suc-le-suc h))
  order_each (x ∷ xs) o (suc i) (suc j) l h = order_each xs o.1 i j (le_of_suc-le-suc l) (le_of_suc-le-suc h)

  pub each_order : (xs : List X) → ((i j : ℕ) → i < j → j < length xs → R (get_or xs i d) (get_or xs j d)) → InOrder R xs
  each_order [] f = tt
  each_order (x ∷ xs) f = (
    all_from_in (R x) xs (λ y h. let q = place_of y xs d h in subst (R x) q.2 (f 0 (suc q.0) (suc-le-suc zero-le) (suc-le-suc q.1))),
    each_order xs (λ i j l h. f (suc i) (suc j) (suc-le-suc l) (suc-le-suc h)),
  )

pub within_each : (counts places : List ℕ) → Within counts places → (length counts ≡ length places) × ((i : ℕ) → i < length counts → get_or places i 0 < get_or counts i 0)
within_each counts places w = (length_all_zip (λ c i. i < c) counts places w, λ i h. AllZip-get_or (λ c k. k < c) counts places i 0 0 w h)

pub each_within : (counts places : List ℕ) → length counts ≡ length places → ((i : ℕ) → i < length counts → get_or places i 0 < get_or counts i 0) → Within counts places
each_within [] [] e f = tt
each_within [] (k ∷ places) e f = let none : ⊥ = omega (arith, e) in absurd none
each_within (c ∷ counts) [] e f = let none : ⊥ = omega (arith, e) in absurd none
each_within (c ∷ counts) (k ∷ places) e f = (f 0 (suc-le-suc zero-le), each_within counts places (omega (arith, e)) (λ i h. f (suc i) (suc-le-suc h)))

pub before_place : (a b : List ℕ) → Before a b → (i : ℕ) × (i < length a) × (i < length b) × (take i a ≡ take i b) × (get_or a i 0 < get_or b i 0)
before_place [] b h = absurd h
before_place (k ∷ a) [] h = absurd h
before_place (k ∷ a) (m ∷ b) (inl l) = (0, suc-le-suc zero-le, suc-le-suc zero-le, refl, l)
before_place (k ∷ a) (m ∷ b) (inr h) =
    let q = before_place a b h.1 in
    let e = h.0 in
    let t = q.3 in
    (suc q.0, suc-le-suc q.1, suc-le-suc q.2, ap (λ x. x ∷ take q.0 a) e ∙ ap (λ l. m ∷ l) t, q.4)

abbrev head_of : List ℕ → ℕ
head_of [] = 0
head_of (x ∷ xs) = x

abbrev tail_of : List ℕ → List ℕ
tail_of [] = []
tail_of (x ∷ xs) = xs

pub place_before : (a b : List ℕ) (i : ℕ) → i < length a → i < length b → take i a ≡ take i b → get_or a i 0 < get_or b i 0 → Before a b
place_before [] b i h g t l = let none : ⊥ = omega arith in absurd none
place_before (k ∷ a) [] i h g t l = let none : ⊥ = omega arith in absurd none
place_before (k ∷ a) (m ∷ b) zero h g t l = inl l
place_before (k ∷ a) (m ∷ b) (suc i) h g t l = inr (ap head_of t, place_before a b i (le_of_suc-le-suc h) (le_of_suc-le-suc g) (ap tail_of t) l)
