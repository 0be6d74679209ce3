-- What the words on lists say, place by place. They are said here of numbers; of other elements they are the same words.
use Rattle.std.specs.Prelude.{◌≡◌, ℕ, ◌<◌, ◌↔◌, ◌≢◌, List, length, take, slice_index}
use Rattle.crash.specs.Lists.{◌∈◌, Once, Ascending}
use Rattle.crash.specs.Ranks.{Within, Before}

pub record WordsAreTheirs : Type 0 where
  -- x stands at some place
  pub stands : (x : ℕ) (xs : List ℕ) → (x ∈ xs) ↔ ((i : ℕ) × (i < length xs) × (slice_index xs i ≡ x))
  -- no two places have the same
  pub once : (xs : List ℕ) → Once xs ↔ ((i j : ℕ) → i < j → j < length xs → slice_index xs i ≢ slice_index xs j)
  -- of two places the earlier one has the smaller number
  pub ascending : (xs : List ℕ) → Ascending xs ↔ ((i j : ℕ) → i < j → j < length xs → slice_index xs i < slice_index xs j)
  -- as many as there are counts, and each below its count
  pub within : (counts places : List ℕ) →
      Within counts places ↔ ((length counts ≡ length places) × ((i : ℕ) → i < length counts → slice_index places i < slice_index counts i))
  -- the first places that differ decide
  pub before : (a b : List ℕ) →
      Before a b ↔ ((i : ℕ) × (i < length a) × (i < length b) × (take i a ≡ take i b) × (slice_index a i < slice_index b i))
