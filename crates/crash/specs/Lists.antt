-- Words on lists.
use Rattle.std.specs.Prelude.{◌≡◌, ℕ, ◌<◌, not, ◌⊎◌, List, [], ◌∷◌, map, filter}
use Rattle.std.specs.List.{flat_map, AllByRecursion}
use Rattle.std.specs.Str.{bytes_eq}

infix 50 ◌∈◌
-- x stands in the list
abbrev pub ◌∈◌ : {X : Type 0} → X → List X → Type 0
x ∈ [] = ⊥
x ∈ (y ∷ ys) = (y ≡ x) ⊎ (x ∈ ys)

-- nothing stands in the list twice
abbrev pub Once : {X : Type 0} → List X → Type 0
Once [] = Unit {0}
Once (x ∷ xs) = (x ∈ xs → ⊥) × Once xs

-- R holds of each element and every one that follows it
abbrev pub InOrder : {X : Type 0} → (X → X → Type 0) → List X → Type 0
InOrder R [] = Unit {0}
InOrder R (x ∷ xs) = AllByRecursion (R x) xs × InOrder R xs

abbrev pub Ascending : List ℕ → Type 0
Ascending xs = InOrder (λ j k. j < k) xs

-- one whose bytes equal an earlier one is left out
abbrev pub distinct : List (List ℕ) → List (List ℕ)
distinct [] = []
distinct (x ∷ xs) = x ∷ filter (λ y. not (bytes_eq x y)) (distinct xs)

-- the same for numbers of contents: of those with equal bytes the first alone stays
abbrev pub firsts : (ℕ → List ℕ) → List ℕ → List ℕ
firsts value [] = []
firsts value (j ∷ js) = j ∷ filter (λ k. not (bytes_eq (value j) (value k))) (firsts value js)

-- every way to take one element of each list, in lexicographic order, the first list slowest
abbrev pub choices : {X : Type 0} → List (List X) → List (List X)
choices [] = [] ∷ []
choices (xs ∷ rest) = flat_map (λ x. map (λ ys. x ∷ ys) (choices rest)) xs
