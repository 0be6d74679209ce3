-- A node's history as that of a sector: a mark that puts a value writes it, and a sync flushes.
use Rattle.std.proofs.Common.{◌≡◌, ℕ, zero, suc, ◌≤◌, Bool, true, false, cond, ◌↔◌, List, [], ◌∷◌, map, length, sym, refl, ap, ◌∙◌, subst, inl, inr}
use Rattle.std.proofs.lemmas.List.{get_or-map, get_or_past, length-map}
use Rattle.std.proofs.lemmas.Bool.{cases_lt, cases_Bool}
use Rattle.tree.specs.declared.node.Node.{Node}
use Rattle.mark.specs.declared.mark.Mark.{Mark}
use Rattle.mark.specs.declared.mark.Mark.TheVariants.{File as file, Directory as directory, Absent as absent, Sync as sync, Comment as comment}
use Rattle.crash.specs.Effects.{Effect}
use Rattle.crash.specs.Rules.{Recording, effect_at, nothing, Writes, Durable, HasNumber, Stands}
use Rattle.crash.specs.Lists.{◌∈◌, Ascending}
use Rattle.crash.specs.States.{is_writer, numbers}
use Rattle.crash.specs.Walk.{put, settle, turn, walk}
use Rattle.crash.specs.Nodes.{is_put, is_sync, value_of, mark_at, node_turn, node_values, NodeAdmitted, HasValue, Synced, ValueStands, numbered}
use Rattle.crash.proofs.Durability.{by_flush_alone, flush_durable}
use Rattle.crash.proofs.Numbering.{in_numbers, numbers_in, numbers_ascending, writer_decides}
use Rattle.crash.proofs.Walking.{walk_map, walk_numbers}
use Rattle.crash.proofs.Members.{in_map, map_in}

-- the effect of a mark on node n, as one on sector 0
abbrev node_effect : ℕ → Mark → Effect
node_effect n m = record { flush = is_sync m n; fua = false; first = 0; contents = cond (is_put m n) ([] ∷ []) [] }

abbrev node_disk : ℕ → List Mark → Recording
node_disk n marks = record { base = []; effects = map (node_effect n) marks }

module _ (n : ℕ) (marks : List Mark) where
  effect_is : (k : ℕ) → effect_at (node_disk n marks) k ≡ node_effect n (mark_at marks k)
  effect_is zero = refl
  effect_is (suc i) = elim (cases_lt i (length marks)) [
    | inl l ↦ get_or-map (node_effect n) marks i comment nothing l
    | inr g ↦
        get_or_past (map (node_effect n) marks) i nothing (subst (λ (k : ℕ). k ≤ i) (sym (length-map marks (node_effect n))) g)
        ∙ ap (node_effect n) (sym (get_or_past marks i comment g))
  ]

  -- its sector 0 is written where the mark puts a value
  writer_is : (m : Mark) (b : Bool) → is_put m n ≡ b → is_writer (node_effect n m) 0 ≡ b
  writer_is m true e = ap (λ (x : Bool). is_writer (record { flush = is_sync m n; fua = false; first = 0; contents = cond x ([] ∷ []) [] }) 0) e
  writer_is m false e = ap (λ (x : Bool). is_writer (record { flush = is_sync m n; fua = false; first = 0; contents = cond x ([] ∷ []) [] }) 0) e

  -- no mark does both
  not_both : (m : Mark) → is_put m n ≡ true → is_sync m n ≡ false
  not_both (file k parent size print) e = refl
  not_both (directory k parent) e = refl
  not_both (absent k) e = refl
  not_both (sync k) e = cc
  not_both comment e = refl

  turn_with : (m : Mark) (x : Node) (held : List Node) (wr : Bool) → is_put m n ≡ wr → x ≡ value_of m → turn (node_effect n m) 0 x held ≡ node_turn m n held
  turn_with m x held true e v =
      ap (λ w. cond w (put (cond (is_sync m n) (settle held) held) x) (cond (is_sync m n) (settle held) held)) (writer_is m true e)
      ∙ ap (λ y. put (cond y (settle held) held) x) (not_both m e)
      ∙ ap (put held) v
      ∙ sym (ap (λ y. cond y (settle held) (cond (is_put m n) (put held (value_of m)) held)) (not_both m e) ∙ ap (λ y. cond y (put held (value_of m)) held) e)
  turn_with m x held false e v =
      ap (λ w. cond w (put (cond (is_sync m n) (settle held) held) x) (cond (is_sync m n) (settle held) held)) (writer_is m false e)
      ∙ sym (ap (λ y. cond (is_sync m n) (settle held) (cond y (put held (value_of m)) held)) e)

  walk_is : (start : Node) (p : ℕ) → walk (node_disk n marks) 0 (numbered start marks) p ≡ node_values start marks n p
  unfolding walk node_values
  walk_is start zero = refl
  walk_is start (suc p) =
      ap (turn (effect_at (node_disk n marks) (suc p)) 0 (numbered start marks (suc p))) (walk_is start p)
      ∙ ap (λ e. turn e 0 (numbered start marks (suc p)) (node_values start marks n p)) (effect_is (suc p))
      ∙ turn_with (mark_at marks (suc p)) (value_of (mark_at marks (suc p))) (node_values start marks n p) (is_put (mark_at marks (suc p)) n) refl refl

  -- the rules of both are the same
  writes_put : (k : ℕ) → Writes (effect_at (node_disk n marks) k) 0 → is_put (mark_at marks k) n ≡ true
  writes_put k w = elim (cases_Bool (is_put (mark_at marks k) n)) [
    | inl t ↦ t
    | inr f ↦
        let a = (writer_decides (node_effect n (mark_at marks k)) 0).1 (subst (λ (e : Effect). Writes e 0) (effect_is k) w) in
        let is = writer_is (mark_at marks k) false f in
        cc
  ]

  put_writes : (k : ℕ) → is_put (mark_at marks k) n ≡ true → Writes (effect_at (node_disk n marks) k) 0
  put_writes k e =
      subst (λ (x : Effect). Writes x 0) (sym (effect_is k)) ((writer_decides (node_effect n (mark_at marks k)) 0).0 (writer_is (mark_at marks k) true e))

  no_fua : (k : ℕ) → (effect_at (node_disk n marks) k).fua ≡ false
  no_fua k = ap (λ (e : Effect). e.fua) (effect_is k)

  flush_is : (k : ℕ) → (effect_at (node_disk n marks) k).flush ≡ is_sync (mark_at marks k) n
  flush_is k = ap (λ (e : Effect). e.flush) (effect_is k)

  durable_synced : (p k : ℕ) → Durable (node_disk n marks) p k → Synced marks n p k
  durable_synced p k h = let q = by_flush_alone (node_disk n marks) p k (no_fua k) h in (q.0, q.1, q.2, sym (flush_is q.0) ∙ q.3)

  synced_durable : (p k : ℕ) → Synced marks n p k → Durable (node_disk n marks) p k
  synced_durable p k q = flush_durable (node_disk n marks) p k (q.0, q.1, q.2, flush_is q.0 ∙ q.3)

  number_value : (p j : ℕ) → HasNumber (node_disk n marks) p 0 j → HasValue marks n p j
  number_value p j (inl e) = inl e
  number_value p j (inr h) = inr (h.0, h.1, writes_put j h.2)

  value_number : (p j : ℕ) → HasValue marks n p j → HasNumber (node_disk n marks) p 0 j
  value_number p j (inl e) = inl e
  value_number p j (inr h) = inr (h.0, h.1, put_writes j h.2)

  stands_value : (p j : ℕ) → Stands (node_disk n marks) p 0 j → ValueStands marks n p j
  stands_value p j h =
      (number_value p j h.0, λ q. h.1 (q.0, q.1, put_writes q.0 q.2, synced_durable p q.0 q.3))

  value_stands : (p j : ℕ) → ValueStands marks n p j → Stands (node_disk n marks) p 0 j
  value_stands p j h =
      (value_number p j h.0, λ q. h.1 (q.0, q.1, writes_put q.0 q.2, durable_synced p q.0 q.3))

  numbers_stand : (p j : ℕ) → (j ∈ numbers (node_disk n marks) p 0) ↔ ValueStands marks n p j
  numbers_stand p j = (
    (λ h. stands_value p j (in_numbers (node_disk n marks) p 0 j h)),
    (λ h. numbers_in (node_disk n marks) p 0 j (value_stands p j h)),
  )

  values_are : (start : Node) (p : ℕ) → node_values start marks n p ≡ map (numbered start marks) (numbers (node_disk n marks) p 0)
  values_are start p =
      sym (walk_is start p)
      ∙ walk_map (node_disk n marks) 0 (numbered start marks) p
      ∙ ap (map (numbered start marks)) (walk_numbers (node_disk n marks) 0 p)

pub node_values_lem : (start : Node) (marks : List Mark) (n p : ℕ) →
    (js : List ℕ) × Ascending js × ((j : ℕ) → (j ∈ js) ↔ ValueStands marks n p j) × (node_values start marks n p ≡ map (numbered start marks) js)
node_values_lem start marks n p =
    (numbers (node_disk n marks) p 0, numbers_ascending (node_disk n marks) p 0, numbers_stand n marks p, values_are n marks start p)

pub node_members : (start : Node) (marks : List Mark) (n p : ℕ) (v : Node) →
    NodeAdmitted start marks n p v ↔ ((j : ℕ) × ValueStands marks n p j × (numbered start marks j ≡ v))
node_members start marks n p v = (
  (λ h.
      let q = in_map (numbered start marks) (numbers (node_disk n marks) p 0) v (subst (λ (l : List Node). v ∈ l) (values_are n marks start p) h) in
      (q.0, (numbers_stand n marks p q.0).0 q.1, q.2)),
  (λ q.
      subst (λ (l : List Node). v ∈ l) (sym (values_are n marks start p))
      (subst (λ (x : Node). x ∈ map (numbered start marks) (numbers (node_disk n marks) p 0)) q.2
      (map_in (numbered start marks) (numbers (node_disk n marks) p 0) q.0 ((numbers_stand n marks p q.0).1 q.1)))),
)
