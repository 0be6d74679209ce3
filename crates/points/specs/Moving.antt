-- What a move to the next places leaves and answers.
use Rattle.std.specs.Prelude.{◌≡◌, ℕ, ◌+◌, ◌<◌, List, map, length, take, drop, Some, None, Ok, Err, Option, Result, ◌≢◌, slice_index}
use Rattle.crash.specs.Ranks.{next}
use Rattle.points.specs.declared.places.LengthsDiffer.{LengthsDiffer}

-- i is where the places change: it goes one up, those before it stay, and those after it are 0
pub record ChangedFrom (before after : List ℕ) (i : ℕ) : Type 0 where
  pub inside : i < length before
  pub up : slice_index after i ≡ slice_index before i + 1
  pub stay : take i after ≡ take i before
  pub zero : drop (i + 1) after ≡ map (λ _. 0) (drop (i + 1) before)

abbrev pub Moved : (counts before after : List ℕ) → Result (Option ℕ) LengthsDiffer → Type 0
Moved counts before after (Ok (Some i)) = (length counts ≡ length before) × (next counts before ≡ Some after) × ChangedFrom before after i
Moved counts before after (Ok None) = (length counts ≡ length before) × (next counts before ≡ None) × (after ≡ map (λ _. 0) before)
Moved counts before after (Err e) = (length counts ≢ length before) × (after ≡ before)
