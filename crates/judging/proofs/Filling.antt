-- The values of one node after the other, listed.
use Rattle.std.proofs.Common.{◌≡◌, ℕ, ◌+◌, ◌<◌, List, [], map, length, get_or, set, Err, ap, ◌∙◌, subst, arith, below_more}
use Rattle.std.proofs.lemmas.List.{length-set, length-map, map-set, get_or-set_same, get_or-set_other}
use Rattle.tree.specs.declared.node.Node.{Node}
use Rattle.tree.specs.declared.node.Node.TheVariants.{Absent}
use Rattle.mark.specs.declared.mark.Mark.{Mark}
use Rattle.crash.specs.Nodes.{node_values}
use Rattle.candidates.specs.declared.eight.Few.{Few}
use Rattle.candidates.specs.declared.refusal.Refusal.{Refusal}
use Rattle.candidates.specs.declared.refusal.Refusal.TheVariants.{SectorNumber, Candidates, States}
use Rattle.candidates.specs.Lists.{listed}
use Rattle.candidates.specs.Gathering.{FirstAbove, NoneAbove}
use Rattle.candidates.specs.Noding.{values_at, NodeGathered}
use Rattle.judging.specs.Tables.{NeverCrowded, Valued}

-- the lists have the values of the first n nodes
pub record FilledTo (nodes : List Node) (marks : List Mark) (p n : ℕ) (lists : List (Few Node)) : Type 0 where
  pub size : length lists ≡ 16
  pub values : (k : ℕ) → k < n → (get_or (map listed lists) k [] ≡ node_values (get_or nodes k Absent) marks k p) × NeverCrowded nodes marks p k

module _ (nodes : List Node) (marks : List Mark) (p n : ℕ) (start : Node) (same : start ≡ get_or nodes n Absent) (lists : List (Few Node)) (before : FilledTo nodes marks p n lists) (inside : n < 16) where
  -- one node more
  pub filled_more : (few : Few Node) → NoneAbove (values_at start marks n) p → listed few ≡ node_values start marks n p → FilledTo nodes marks p (n + 1) (set lists n few)
  filled_more few none is =
      let P : Node → Type 0 = λ x. NoneAbove (values_at x marks n) p in
      let row : List (List Node) = map listed lists in
      let size = before.size in
      let long = length-map lists (listed {T = Node}) in
      let here : get_or (map listed (set lists n few)) n [] ≡ listed few = ap (λ xs. get_or xs n []) (map-set listed lists n few) ∙ get_or-set_same row n (listed few) [] (omega arith) in
      record {
        size = length-set lists n few ∙ before.size;
        values =
            below_more _ n
            (λ k l. (
              ap (λ xs. get_or xs k []) (map-set listed lists n few) ∙ get_or-set_other row n k (listed few) [] (λ e. omega arith) ∙ (before.values k l).0,
              (before.values k l).1,
            ))
            (here ∙ is ∙ ap (λ x. node_values x marks n p) same, subst P same none);
      }

  -- a node with too many
  pub filling_declined : (q : Refusal) → NodeGathered start marks n p (Err q) → Valued nodes marks p (Err q)
  filling_declined SectorNumber h = h
  filling_declined (Candidates q) h = let P : Node → Type 0 = λ x. FirstAbove (values_at x marks n) p q in (n, inside, subst P same h, λ k m. (before.values k m).1)
  filling_declined (States q) h = h
