-- Which points are within the limits, and how many states they have.
use Rattle.std.specs.Prelude.{◌≡◌, ℕ, ◌<◌, ◌≤◌, min, ◌⊎◌, List, map, length, Ok, Err, Result}
use Rattle.std.specs.List.{range_with_len}
use Rattle.tree.specs.declared.node.Node.{Node}
use Rattle.mark.specs.declared.mark.Mark.{Mark}
use Rattle.crash.specs.Rules.{Recording}
use Rattle.crash.specs.States.{candidates, states}
use Rattle.crash.specs.Ranks.{product}
use Rattle.candidates.specs.declared.refusal.Refusal.{Refusal}
use Rattle.candidates.specs.declared.refusal.Refusal.TheVariants.{SectorNumber, Candidates, States}
use Rattle.candidates.specs.Gathering.{FirstAbove, NoneAbove, numbers_at}
use Rattle.candidates.specs.Noding.{values_at}

-- a sector or a node has more than 8 candidates at p, equal ones counted; a node's number does not depend on its first value
abbrev pub Crowded : Recording → List Mark → (p : ℕ) → Type 0
Crowded d marks p =
    ((s : ℕ) × (s < length d.base) × (8 < numbers_at d s p))
    ⊎ ((n : ℕ) × (n < 16) × ((start : Node) → 8 < values_at start marks n p))

-- every sector and every node has at most 8
abbrev pub Uncrowded : Recording → List Mark → (p : ℕ) → Type 0
Uncrowded d marks p =
    ((s : ℕ) → s < length d.base → numbers_at d s p ≤ 8)
    × ((n : ℕ) → n < 16 → (start : Node) → values_at start marks n p ≤ 8)

-- p is within the limits
abbrev pub Fine : Recording → List Mark → (p : ℕ) → Type 0
Fine d marks p = Uncrowded d marks p × (length (states d p) ≤ 1048576)

-- the number of states of p, or why p is declined: what is crowded at p or before comes before too many states
abbrev pub Counted : Recording → List Mark → (p : ℕ) → Result ℕ Refusal → Type 0
Counted d marks p (Ok n) = ((q : ℕ) → q ≤ p → Uncrowded d marks q) × (n ≡ length (states d p)) × (n ≤ 1048576)
Counted d marks p (Err SectorNumber) = ⊥
Counted d marks p (Err (Candidates q)) = (q ≤ p) × Crowded d marks q
Counted d marks p (Err (States q)) = (q ≡ p) × ((k : ℕ) → k ≤ p → Uncrowded d marks k) × (1048576 < length (states d p))

-- every point is within the limits, or the first one that is not, with its first reason
abbrev pub Checked : Recording → List Mark → Result (Unit {0}) Refusal → Type 0
Checked d marks (Ok u) = (p : ℕ) → p ≤ length d.effects → Fine d marks p
Checked d marks (Err SectorNumber) = ⊥
Checked d marks (Err (Candidates q)) = (q ≤ length d.effects) × Crowded d marks q × ((p : ℕ) → p < q → Fine d marks p)
Checked d marks (Err (States q)) = (q ≤ length d.effects) × Uncrowded d marks q × (1048576 < length (states d q)) × ((p : ℕ) → p < q → Fine d marks p)

-- how many candidates each of the first n sectors has
abbrev pub widths : Recording → (p n : ℕ) → List ℕ
widths d p n = map (λ s. length (candidates d p s)) (range_with_len 0 n)

-- a number up to one above the limit
abbrev pub capped : ℕ → ℕ
capped n = min n 1048577

-- what counting over the sectors answers
abbrev pub SectorsCounted : Recording → (p : ℕ) → Result ℕ Refusal → Type 0
SectorsCounted d p (Ok n) = ((s : ℕ) → s < length d.base → NoneAbove (numbers_at d s) p) × (n ≡ capped (product (widths d p (length d.base))))
SectorsCounted d p (Err SectorNumber) = ⊥
SectorsCounted d p (Err (Candidates q)) = (s : ℕ) × (s < length d.base) × FirstAbove (numbers_at d s) p q
SectorsCounted d p (Err (States q)) = ⊥

-- what the check of the nodes answers
abbrev pub NodesChecked : List Mark → (p : ℕ) → Result (Unit {0}) Refusal → Type 0
NodesChecked marks p (Ok u) = (n : ℕ) → n < 16 → (start : Node) → NoneAbove (values_at start marks n) p
NodesChecked marks p (Err SectorNumber) = ⊥
NodesChecked marks p (Err (Candidates q)) = (n : ℕ) × (n < 16) × ((start : Node) → FirstAbove (values_at start marks n) p q)
NodesChecked marks p (Err (States q)) = ⊥
