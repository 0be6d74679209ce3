-- What the gathering of a node's candidates answers.
use Rattle.std.specs.Prelude.{ℕ, List, length, Result}
use Rattle.tree.specs.declared.node.Node.{Node}
use Rattle.mark.specs.declared.mark.Mark.{Mark}
use Rattle.crash.specs.Nodes.{node_values}
use Rattle.candidates.specs.declared.eight.Few.{Few}
use Rattle.candidates.specs.declared.refusal.Refusal.{Refusal}
use Rattle.candidates.specs.Gathering.{Walked}

-- how many values node n may have at a point
abbrev pub values_at : (start : Node) → List Mark → (n : ℕ) → ℕ → ℕ
values_at start marks n q = length (node_values start marks n q)

-- the values of node n at p, or the first point up to there at which they are more than 8
abbrev pub NodeGathered : (start : Node) → List Mark → (n p : ℕ) → Result (Few Node) Refusal → Type 0
NodeGathered start marks n p = Walked (node_values start marks n) p
