-- The values that each node may have at a point.
use Rattle.std.specs.Prelude.{◌≡◌, ℕ, ◌<◌, List, [], map, Ok, Err, Result, slice_index_or}
use Rattle.tree.specs.declared.node.Node.{Node}
use Rattle.tree.specs.declared.node.Node.TheVariants.{Absent}
use Rattle.mark.specs.declared.mark.Mark.{Mark}
use Rattle.crash.specs.Nodes.{node_values}
use Rattle.candidates.specs.declared.refusal.Refusal.{Refusal}
use Rattle.candidates.specs.declared.refusal.Refusal.TheVariants.{SectorNumber, Candidates, States}
use Rattle.candidates.specs.Lists.{listed}
use Rattle.candidates.specs.Gathering.{FirstAbove, NoneAbove}
use Rattle.candidates.specs.Noding.{values_at}
use Rattle.judging.specs.declared.values.Values.{Values}

-- the values that node n may have
abbrev pub values_in : Values → ℕ → List Node
values_in v n = slice_index_or (map listed v.nodes) n []

-- up to p, the node has never more than 8 values; `nodes` are those of the tree recovered from the base
abbrev pub NeverCrowded : (nodes : List Node) → List Mark → (p n : ℕ) → Type 0
NeverCrowded nodes marks p n = NoneAbove (values_at (slice_index_or nodes n Absent) marks n) p

-- the table has the values of node n at p
abbrev pub HasValues : (nodes : List Node) → List Mark → (p : ℕ) → Values → (n : ℕ) → Type 0
HasValues nodes marks p v n = (values_in v n ≡ node_values (slice_index_or nodes n Absent) marks n p) × NeverCrowded nodes marks p n

-- a table with the values of every node at p; or the first point up to there at which a node has more than 8 values, for
-- the lowest node that has
abbrev pub Valued : (nodes : List Node) → List Mark → (p : ℕ) → Result Values Refusal → Type 0
Valued nodes marks p (Ok v) = (n : ℕ) → n < 16 → HasValues nodes marks p v n
Valued nodes marks p (Err SectorNumber) = ⊥
Valued nodes marks p (Err (Candidates q)) =
    (n : ℕ) × (n < 16) × FirstAbove (values_at (slice_index_or nodes n Absent) marks n) p q × ((k : ℕ) → k < n → NeverCrowded nodes marks p k)
Valued nodes marks p (Err (States q)) = ⊥
