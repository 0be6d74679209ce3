-- The standing state of a crash point.
use Rattle.std.specs.Prelude.{◌≡◌, ℕ, ◌+◌, ◌<◌, Bool, true, false, [], length, take, replicate, Ok, Err, Result, slice_index_or}
use Rattle.image.specs.Sectors.{Image}
use Rattle.crash.specs.Rules.{Recording}
use Rattle.crash.specs.States.{candidate_numbers, states}
use Rattle.crash.specs.Ranks.{places_of}
use Rattle.crash.specs.Laws.{counts}
use Rattle.candidates.specs.declared.refusal.Refusal.{Refusal}
use Rattle.candidates.specs.declared.refusal.Refusal.TheVariants.{SectorNumber, Candidates, States}
use Rattle.candidates.specs.Gathering.{FirstAbove, NoneAbove, numbers_at}
use Rattle.standing.specs.declared.choice.Choice.{Choice}
use Rattle.standing.specs.Places.{lists_in, counts_in, places_in}

-- the table has the candidates of every sector at p
pub record Lists (d : Recording) (p : ℕ) (c : Choice) : Type 0 where
  pub numbers : (s : ℕ) → s < length d.base → slice_index_or (lists_in c) s [] ≡ candidate_numbers d p s
  pub counts : take (length d.base) (counts_in c) ≡ counts d p

-- every sector takes its first candidate
abbrev pub Firsts : Recording → Choice → Type 0
Firsts d c = take (length d.base) (places_in c) ≡ replicate (length d.base) 0

-- the state of rank r stands: its places in the table, and its image
pub record Stands (d : Recording) (p r : ℕ) (c : Choice) (image : Image) : Type 0 where
  pub lists : Lists d p c
  pub places : take (length d.base) (places_in c) ≡ places_of (counts d p) r
  pub rank : r < length (states d p)
  pub shows : image ≡ slice_index_or (states d p) r []

-- p is entered: its candidates are listed, the first are taken, and no sector has more than 8 up to p, equal ones counted
pub record Entered (d : Recording) (p : ℕ) (c : Choice) : Type 0 where
  pub lists : Lists d p c
  pub firsts : Firsts d c
  pub few : (s : ℕ) → s < length d.base → NoneAbove (numbers_at d s) p

-- p is entered, or some sector has more than 8 candidates, first at q
abbrev pub Entry : Recording → (p : ℕ) → Result Choice Refusal → Type 0
Entry d p (Ok c) = Entered d p c
Entry d p (Err SectorNumber) = ⊥
Entry d p (Err (Candidates q)) = (s : ℕ) × (s < length d.base) × FirstAbove (numbers_at d s) p q
Entry d p (Err (States q)) = ⊥

-- from the state of rank r to the next, or that it was the last
abbrev pub Onward : Recording → (p r : ℕ) → (after : Choice) → Image → Bool → Type 0
Onward d p r after image true = (r + 1 < length (states d p)) × Stands d p (r + 1) after image
Onward d p r after image false = r + 1 ≡ length (states d p)
