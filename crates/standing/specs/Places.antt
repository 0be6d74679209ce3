-- Which candidates a choice takes, and what they leave of an image.
use Rattle.std.specs.Prelude.{◌≡◌, ℕ, ◌<◌, ◌≤◌, Bool, true, false, cond, not, List, [], map, length, Some, None, Option, ◌==◌, nat_lt, slice_index, slice_index_or, slice_set}
use Rattle.image.specs.Sectors.{Sector, Image}
use Rattle.crash.specs.Rules.{Recording, written}
use Rattle.crash.specs.Ranks.{next}
use Rattle.points.specs.Moving.{ChangedFrom}
use Rattle.candidates.specs.declared.eight.Few.{Few}
use Rattle.candidates.specs.Lists.{listed}
use Rattle.standing.specs.declared.choice.Choice.{Choice}

-- the candidates of every sector, as they are kept and by their numbers, and the places of those that are taken
abbrev pub candidates_in : Choice → List (Few ℕ)
candidates_in c = c.candidates

abbrev pub lists_in : Choice → List (List ℕ)
lists_in c = map listed c.candidates

abbrev pub places_in : Choice → List ℕ
places_in c = c.places

-- how many candidates every sector has
abbrev pub counts_in : Choice → List ℕ
counts_in c = map length (lists_in c)

-- the number of the candidate that sector s takes
abbrev pub taken : Choice → (s : ℕ) → ℕ
taken c s = slice_index (slice_index_or (lists_in c) s []) (slice_index (places_in c) s)

-- the content of that candidate
abbrev pub chosen : Recording → Choice → (s : ℕ) → Sector
chosen d c s = written d s (taken c s)

-- sector s takes another candidate than its base content
abbrev pub differs : Choice → (s : ℕ) → Bool
differs c s = not (taken c s == 0)

-- sector s has more candidates than one
abbrev pub wavers : Choice → (s : ℕ) → Bool
wavers c s = nat_lt 1 (slice_index (counts_in c) s)

-- the image with a content in place of sector s, if that is a whole sector
abbrev pub replaced : Image → (s : ℕ) → Sector → Image
replaced image s x = cond (length x == 512) (slice_set image s x) image

-- the image after whole contents were put onto those sectors of `from` to below `to` that are due
pub record Put (due : ℕ → Bool) (content : ℕ → Sector) (from to : ℕ) (before after : Image) : Type 0 where
  pub size : length after ≡ length before
  pub done : (s : ℕ) → from ≤ s → s < to → s < length before → due s ≡ true → length (content s) ≡ 512 → slice_index_or after s [] ≡ content s
  pub undue : (s : ℕ) → due s ≡ false → slice_index_or after s [] ≡ slice_index_or before s []
  pub low : (s : ℕ) → s < from → slice_index_or after s [] ≡ slice_index_or before s []
  pub high : (s : ℕ) → to ≤ s → slice_index_or after s [] ≡ slice_index_or before s []

-- the places are moved on to the next, from i on; or there are none
abbrev pub MovedOn : (counts before after : List ℕ) → Option ℕ → Type 0
MovedOn counts before after (Some i) = (next counts before ≡ Some after) × ChangedFrom before after i
MovedOn counts before after None = next counts before ≡ None
