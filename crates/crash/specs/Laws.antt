-- What is proved of the definitions.
use Rattle.std.specs.Prelude.{◌≡◌, ℕ, suc, ◌+◌, ◌<◌, ◌≤◌, false, ◌⊎◌, ◌↔◌, List, [], ◌∷◌, map, length, Some, None, Decides, slice_index_or}
use Rattle.image.specs.Sectors.{Sector, Image}
use Rattle.crash.specs.Rules.{Recording, effect_at, HasFlush, HasFua, Durable, Stands, Candidate, Permitted, written}
use Rattle.crash.specs.Lists.{◌∈◌, Once, InOrder, Ascending, distinct}
use Rattle.crash.specs.States.{is_durable, numbers, candidates, candidate_numbers, columns, states, State, points, list}
use Rattle.crash.specs.Ranks.{product, Within, pick, Before, rank_of, places_of, next}
use Rattle.crash.specs.Walk.{walk}

-- What the rest uses of when a write is durable.
pub record DurableLaws : Type 0 where
  -- the test for it
  pub test : (d : Recording) (p k : ℕ) → Decides (is_durable d p k) (Durable d p k)
  -- no entry after p is durable at p
  pub upto : (d : Recording) (p k : ℕ) → Durable d p k → k ≤ p
  -- what is durable stays durable
  pub later : (d : Recording) (p k : ℕ) → Durable d p k → Durable d (suc p) k
  -- a flush makes every earlier write durable
  pub by_flush : (d : Recording) (p k : ℕ) → HasFlush (effect_at d (suc p)) → k ≤ p → Durable d (suc p) k
  -- an entry without flush makes no earlier write durable
  pub without_flush : (d : Recording) (p k : ℕ) → (effect_at d (suc p)).flush ≡ false → k ≤ p → Durable d (suc p) k → Durable d p k
  -- at its own point an entry is durable by FUA alone
  pub at_once : (d : Recording) (p : ℕ) → Durable d p p ↔ HasFua (effect_at d p)
  -- a write without FUA is durable by a later flush alone
  pub without_fua : (d : Recording) (p k : ℕ) → (effect_at d k).fua ≡ false → Durable d p k ↔ ((m : ℕ) × (k < m) × (m ≤ p) × HasFlush (effect_at d m))

-- The numbers computed are those that the rules leave, in order, and never none.
pub record NumbersAreTheRules : Type 0 where
  pub members : (d : Recording) (p s j : ℕ) → (j ∈ numbers d p s) ↔ Stands d p s j
  pub ascending : (d : Recording) (p s : ℕ) → Ascending (numbers d p s)
  pub some : (d : Recording) (p s : ℕ) → 0 < length (numbers d p s)

-- content a of sector s has a number at p that is below every number of content b
abbrev pub Sooner : Recording → ℕ → ℕ → Sector → Sector → Type 0
Sooner d p s a b =
    (j : ℕ) × Stands d p s j × (written d s j ≡ a) × ((k : ℕ) → Stands d p s k → written d s k ≡ b → j < k)

-- The candidates are those of the rules, no bytes twice, in order of their first numbers.
pub record CandidatesAreTheRules : Type 0 where
  pub members : (d : Recording) (p s : ℕ) (c : Sector) → (c ∈ candidates d p s) ↔ Candidate d p s c
  pub once : (d : Recording) (p s : ℕ) → Once (candidates d p s)
  pub order : (d : Recording) (p s : ℕ) → InOrder (Sooner d p s) (candidates d p s)
  pub some : (d : Recording) (p s : ℕ) → 0 < length (candidates d p s)
  -- before the first entry a sector has its base content alone
  pub at_0 : (d : Recording) (s : ℕ) → candidates d 0 s ≡ slice_index_or d.base s [] ∷ []

-- how many candidates each sector has
abbrev pub counts : Recording → ℕ → List ℕ
counts d p = map length (columns d p)

-- The states are the permitted images, no image twice.
pub record StatesArePermitted : Type 0 where
  pub members : (d : Recording) (p : ℕ) (image : Image) → (image ∈ states d p) ↔ Permitted d p image
  pub once : (d : Recording) (p : ℕ) → Once (states d p)
  pub count : (d : Recording) (p : ℕ) → length (states d p) ≡ product (counts d p)
  pub some : (d : Recording) (p : ℕ) → 0 < length (states d p)

-- The state of a rank has the candidates at the rank's places, and the places of the ranks climb in lexicographic order.
pub record RanksAreLexicographic : Type 0 where
  pub image : (d : Recording) (p r : ℕ) → r < length (states d p) → slice_index_or (states d p) r [] ≡ pick [] (columns d p) (places_of (counts d p) r)
  pub within : (d : Recording) (p r : ℕ) → r < length (states d p) → Within (counts d p) (places_of (counts d p) r)
  pub order : (d : Recording) (p r t : ℕ) → r < t → t < length (states d p) → Before (places_of (counts d p) r) (places_of (counts d p) t)
  -- the rank of these places
  pub rank : (d : Recording) (p r : ℕ) → r < length (states d p) → rank_of (counts d p) (places_of (counts d p) r) ≡ r
  -- from one rank to the next
  pub first : (d : Recording) (p : ℕ) → places_of (counts d p) 0 ≡ map (λ _. 0) (counts d p)
  pub more : (d : Recording) (p r : ℕ) → r + 1 < length (states d p) → next (counts d p) (places_of (counts d p) r) ≡ Some (places_of (counts d p) (r + 1))
  pub last : (d : Recording) (p r : ℕ) → r + 1 ≡ length (states d p) → next (counts d p) (places_of (counts d p) r) ≡ None

-- x comes before y in the list: at an earlier point, or at the same point with a smaller rank
abbrev pub Earlier : State → State → Type 0
Earlier x y = (x.point < y.point) ⊎ ((x.point ≡ y.point) × (x.rank < y.rank))

-- The points are 0 to n, in order, and the list has every state of every point, once and in order.
pub record ListIsTheStates : Type 0 where
  pub upto : (d : Recording) (p : ℕ) → (p ∈ points d) ↔ (p ≤ length d.effects)
  pub ascending : (d : Recording) → Ascending (points d)
  pub members : (d : Recording) (x : State) → (x ∈ list d) ↔ ((x.point ≤ length d.effects) × (x.rank < length (states d x.point)) × (x.image ≡ slice_index_or (states d x.point) x.rank []))
  pub order : (d : Recording) → InOrder Earlier (list d)
  pub once : (d : Recording) → Once (list d)

-- A sector's history over the entries up to p holds the numbers that stand, in order, or with each number its content; the
-- candidates are these contents with equal ones left out, and the numbers of the candidates are left of the numbers likewise.
pub record HistoryGivesTheCandidates : Type 0 where
  pub gathered : (d : Recording) (p s : ℕ) → walk d s (λ j. j) p ≡ numbers d p s
  pub contents : (d : Recording) (p s : ℕ) → walk d s (written d s) p ≡ map (written d s) (numbers d p s)
  pub unrepeated : (d : Recording) (p s : ℕ) → candidates d p s ≡ distinct (walk d s (written d s) p)
  pub numbered : (d : Recording) (p s : ℕ) → candidates d p s ≡ map (written d s) (candidate_numbers d p s)
  -- of the numbers that stand with one content the lowest is a candidate's, and they are in order
  pub lowest : (d : Recording) (p s j : ℕ) →
      (j ∈ candidate_numbers d p s) ↔ (Stands d p s j × ((k : ℕ) → Stands d p s k → written d s k ≡ written d s j → j ≤ k))
  pub climbing : (d : Recording) (p s : ℕ) → Ascending (candidate_numbers d p s)
