-- Limits of points, step by step.
use Rattle.std.proofs.Common.{below_more, ap, ◌∙◌, ◌+◌, ◌≡◌, ℕ, zero, suc, ◌-◌, ◌<◌, ◌≤◌, Bool, true, false, cond, List, length, Ok, Err, sym, refl, subst, inl, inr, arith}
use Rattle.std.proofs.lemmas.List.{length_push, length-drop}
use Rattle.std.proofs.lemmas.Bool.{cases_lt}
use Rattle.tree.specs.declared.node.Node.{Node}
use Rattle.mark.specs.declared.mark.Mark.{Mark}
use Rattle.crash.specs.Rules.{Recording}
use Rattle.crash.specs.States.{states}
use Rattle.crash.specs.Walk.{put, settle}
use Rattle.crash.specs.Nodes.{is_sync, is_put, value_of, mark_at, node_turn, node_values}
use Rattle.candidates.specs.declared.refusal.Refusal.{Refusal}
use Rattle.candidates.specs.declared.refusal.Refusal.TheVariants.{SectorNumber, Candidates, States}
use Rattle.candidates.specs.Gathering.{FirstAbove, NoneAbove, numbers_at, Found}
use Rattle.candidates.specs.Noding.{values_at, NodeGathered}
use Rattle.candidates.specs.declared.eight.Few.{Few}
use Rattle.points.proofs.Multiplying.{widths_states, capped_low, capped_high}
use Rattle.points.specs.Counting.{capped, Crowded, Uncrowded, Fine, Counted, Checked, SectorsCounted, NodesChecked}

-- a sector is declined
pub sector_declined : (d : Recording) (p s : ℕ) (f : Refusal) → s < length d.base → Found d p s (Err f) → SectorsCounted d p (Err f)
sector_declined d p s SectorNumber l h = omega arith
sector_declined d p s (Candidates q) l h = (s, l, h.1)
sector_declined d p s (States q) l h = h

-- how many values a node has does not depend on the first
turn_length : (m : Mark) (n : ℕ) (xs ys : List Node) → length xs ≡ length ys → length (node_turn m n xs) ≡ length (node_turn m n ys)
turn_length m n xs ys e = go (is_sync m n) (is_put m n)
  where
    go : (s w : Bool) → length (cond s (settle xs) (cond w (put xs (value_of m)) xs)) ≡ length (cond s (settle ys) (cond w (put ys (value_of m)) ys))
    go true w = let a = length-drop (length xs - 1) xs in let b = length-drop (length ys - 1) ys in omega arith
    go false true = let a = length_push xs (value_of m) in let b = length_push ys (value_of m) in omega arith
    go false false = e

pub start_free : (a b : Node) (marks : List Mark) (n p : ℕ) → values_at a marks n p ≡ values_at b marks n p
unfolding node_values
start_free a b marks n zero = refl
start_free a b marks n (suc p) = turn_length (mark_at marks (suc p)) n (node_values a marks n p) (node_values b marks n p) (start_free a b marks n p)

none_above_any : (a b : Node) (marks : List Mark) (n p : ℕ) → NoneAbove (values_at a marks n) p → NoneAbove (values_at b marks n) p
none_above_any a b marks n p h q l = subst (λ (k : ℕ). k ≤ 8) (start_free a b marks n q) (h q l)

first_above_any : (a b : Node) (marks : List Mark) (n p q : ℕ) → FirstAbove (values_at a marks n) p q → FirstAbove (values_at b marks n) p q
first_above_any a b marks n p q h =
    (h.0, subst (λ (k : ℕ). 8 < k) (start_free a b marks n q) h.1, λ k l. subst (λ (m : ℕ). m ≤ 8) (start_free a b marks n k) (h.2 k l))

-- a node is declined
pub node_declined : (a : Node) (marks : List Mark) (n p : ℕ) (f : Refusal) → n < 16 → NodeGathered a marks n p (Err f) → NodesChecked marks p (Err f)
node_declined a marks n p SectorNumber l h = h
node_declined a marks n p (Candidates q) l h = (n, l, λ b. first_above_any a b marks n p q h)
node_declined a marks n p (States q) l h = h

-- one node more is not declined
pub nodes_more : (a : Node) (marks : List Mark) (p k : ℕ) (few : Few Node) → ((n : ℕ) → n < k → (start : Node) → NoneAbove (values_at start marks n) p) → NodeGathered a marks k p (Ok few) →
    (n : ℕ) → n < k + 1 → (start : Node) → NoneAbove (values_at start marks n) p
nodes_more a marks p k few h g =
    below_more (λ (n : ℕ). (start : Node) → NoneAbove (values_at start marks n) p) k h (λ start. none_above_any a start marks k p g.0)

module _ (d : Recording) (marks : List Mark) where
  -- both checks passed
  uncrowded_upto : (p : ℕ) → ((s : ℕ) → s < length d.base → NoneAbove (numbers_at d s) p) → ((n : ℕ) → n < 16 → (start : Node) → NoneAbove (values_at start marks n) p) →
      (q : ℕ) → q ≤ p → Uncrowded d marks q
  uncrowded_upto p a b q l = ((λ s h. a s h q l), (λ n h start. b n h start q l))

  pub counted_sector : (p : ℕ) (f : Refusal) → SectorsCounted d p (Err f) → Counted d marks p (Err f)
  counted_sector p SectorNumber h = h
  counted_sector p (Candidates q) h = (h.2.0, inl (h.0, h.1, h.2.1))
  counted_sector p (States q) h = absurd h

  pub counted_node : (p : ℕ) (f : Refusal) → NodesChecked marks p (Err f) → Counted d marks p (Err f)
  counted_node p SectorNumber h = h
  counted_node p (Candidates q) h = ((h.2 Rattle.tree.specs.declared.node.Node.TheVariants.Absent).0, inr (h.0, h.1, λ start. (h.2 start).1))
  counted_node p (States q) h = absurd h

  pub counted_many : (p n : ℕ) → SectorsCounted d p (Ok n) → NodesChecked marks p (Ok tt) → 1048576 < n → Counted d marks p (Err (States p))
  counted_many p n s c l = (refl, uncrowded_upto p s.0 c, capped_high n _ (s.1 ∙ ap capped (widths_states d p)) l)

  pub counted_right : (p n : ℕ) → SectorsCounted d p (Ok n) → NodesChecked marks p (Ok tt) → n ≤ 1048576 → Counted d marks p (Ok n)
  counted_right p n s c l = (uncrowded_upto p s.0 c, capped_low n _ (s.1 ∙ ap capped (widths_states d p)) l, l)

  -- one point more is within the limits
  pub fine_more : (p n : ℕ) → ((k : ℕ) → k < p → Fine d marks k) → Counted d marks p (Ok n) → (k : ℕ) → k < p + 1 → Fine d marks k
  fine_more p n fine h = below_more (Fine d marks) p fine (h.0 p (omega arith), subst (λ (k : ℕ). k ≤ 1048576) h.1 h.2)

  -- a point that is crowded is not within the limits
  not_fine : (p : ℕ) → Crowded d marks p → Uncrowded d marks p → ⊥
  not_fine p (inl c) u = let a = c.2 in let b = u.0 c.0 c.1 in omega arith
  not_fine p (inr c) u =
      let a = c.2 Rattle.tree.specs.declared.node.Node.TheVariants.Absent in
      let b = u.1 c.0 c.1 Rattle.tree.specs.declared.node.Node.TheVariants.Absent in
      omega arith

  pub checked_point : (p : ℕ) (f : Refusal) → p ≤ length d.effects → ((k : ℕ) → k < p → Fine d marks k) → Counted d marks p (Err f) → Checked d marks (Err f)
  checked_point p SectorNumber l fine h = h
  checked_point p (Candidates q) l fine h = elim (cases_lt q p) [
    | inl a ↦ absurd (not_fine q h.1 (fine q a).0)
    | inr a ↦ let e : p ≡ q = let b = h.0 in omega arith in (omega arith, h.1, λ k b. fine k (omega arith))
  ]
  checked_point p (States q) l fine h =
      let e = h.0 in (omega arith, h.1 q (omega arith), subst (λ (k : ℕ). 1048576 < length (states d k)) (sym e) h.2, λ k b. fine k (omega arith))
