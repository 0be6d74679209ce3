-- What the gathering of a sector's candidates answers.
use Rattle.std.specs.Prelude.{◌≡◌, ℕ, ◌<◌, ◌≤◌, Bool, List, length, Ok, Err, Result}
use Rattle.std.specs.List.{list_any}
use Rattle.std.specs.Str.{bytes_eq}
use Rattle.crash.specs.Rules.{Recording}
use Rattle.crash.specs.States.{numbers, candidate_numbers}
use Rattle.candidates.specs.declared.eight.Few.{Few}
use Rattle.candidates.specs.declared.refusal.Refusal.{Refusal}
use Rattle.candidates.specs.declared.refusal.Refusal.TheVariants.{SectorNumber, Candidates, States}
use Rattle.candidates.specs.Lists.{listed}

-- q is the first number up to p whose count is above 8
abbrev pub FirstAbove : (ℕ → ℕ) → (p q : ℕ) → Type 0
FirstAbove count p q = (q ≤ p) × (8 < count q) × ((k : ℕ) → k < q → count k ≤ 8)

-- no number up to p has a count above 8
abbrev pub NoneAbove : (ℕ → ℕ) → (p : ℕ) → Type 0
NoneAbove count p = (q : ℕ) → q ≤ p → count q ≤ 8

-- The history of a key is one list at each point: what it is at p, or the first point up to there at which it is longer
-- than 8.
abbrev pub Walked : {X : Type 0} → (ℕ → List X) → (p : ℕ) → Result (Few X) Refusal → Type 0
Walked at p (Ok few) = NoneAbove (λ q. length (at q)) p × (listed few ≡ at p)
Walked at p (Err SectorNumber) = ⊥
Walked at p (Err (Candidates q)) = FirstAbove (λ q. length (at q)) p q
Walked at p (Err (States q)) = ⊥

-- how many numbers of sector s are not struck out at a point
abbrev pub numbers_at : Recording → (s : ℕ) → ℕ → ℕ
numbers_at d s q = length (numbers d q s)

-- the numbers that are not struck out at p, or the first point up to there at which they are more than 8
abbrev pub Gathered : Recording → (p s : ℕ) → Result (Few ℕ) Refusal → Type 0
Gathered d p s = Walked (λ q. numbers d q s) p

-- the content of a number stands among those of earlier numbers
abbrev pub repeated : (ℕ → List ℕ) → (earlier : List ℕ) → ℕ → Bool
repeated value earlier n = list_any (λ k. bytes_eq (value k) (value n)) earlier

-- the numbers of the candidates of sector s at p, or why there are none: the sector is asked for first
abbrev pub Found : Recording → (p s : ℕ) → Result (Few ℕ) Refusal → Type 0
Found d p s (Ok few) = (s < length d.base) × NoneAbove (numbers_at d s) p × (listed few ≡ candidate_numbers d p s)
Found d p s (Err SectorNumber) = length d.base ≤ s
Found d p s (Err (Candidates q)) = (s < length d.base) × FirstAbove (numbers_at d s) p q
Found d p s (Err (States q)) = ⊥
