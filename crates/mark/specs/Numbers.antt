-- Numbers in a text.
use Rattle.std.specs.Prelude.{◌≡◌, ℕ, ◌<◌, ◌≤◌, List, ◌++◌, length, Some, None, decimal, Option, slice_index}
use Rattle.std.specs.Int.{IsInRange}
use Rattle.mark.specs.declared.numbers.Number.{Number}

-- the first n bytes are digits, and the next is none
pub record Run (t : List ℕ) (n : ℕ) : Type 0 where
  pub within : n ≤ length t
  pub all : (k : ℕ) → k < n → IsInRange 48 57 (slice_index t k)
  pub stops : n < length t → IsInRange 48 57 (slice_index t n) → ⊥

-- a text does not begin with a digit
abbrev pub NoDigit : List ℕ → Type 0
NoDigit t = 0 < length t → IsInRange 48 57 (slice_index t 0) → ⊥

-- t is the number v below 1000 in decimal, and then `rest`
abbrev pub Front : ℕ → List ℕ → List ℕ → Type 0
Front v rest t = (t ≡ decimal v ++ rest) × (v < 1000) × NoDigit rest

-- x is the one number that stands at the front of t
abbrev pub Reads : List ℕ → Option Number → Type 0
Reads t None = (v : ℕ) (rest : List ℕ) → Front v rest t → ⊥
Reads t (Some x) = Front x.value x.rest.now t × ((v : ℕ) (rest : List ℕ) → Front v rest t → (x.value ≡ v) × (x.rest.now ≡ rest))
