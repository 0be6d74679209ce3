-- The list of a point from that of the point before.
use Rattle.std.proofs.Common.{◌≡◌, ℕ, zero, suc, ◌+◌, ◌<◌, ◌≤◌, Bool, true, false, cond, leb, ltb, Option, List, [], ◌∷◌, length, vec_items, sym, refl, ap, ◌∙◌, subst, inl, inr, add-one, arith}
use Rattle.std.specs.Bool.{then_some}
use Rattle.std.proofs.lemmas.Bool.{cases_lt, le-ltb, and_right}
use Rattle.std.proofs.lemmas.List.{length-take}
use Rattle.tree.specs.declared.node.Node.{Node}
use Rattle.mark.specs.declared.mark.Mark.{Mark}
use Rattle.image.specs.Sectors.{Image, Sector}
use Rattle.crash.specs.Rules.{effect_at}
use Rattle.crash.specs.States.{numbers}
use Rattle.crash.specs.Nodes.{mark_at, node_turn, node_values}
use Rattle.crash.specs.Walk.{put, settle, turn, walk}
use Rattle.crash.proofs.Walking.{walk_numbers}
use Rattle.trace.specs.declared.steps.Trace.{Trace}
use Rattle.trace.specs.declared.steps.Step.{Step}
use Rattle.trace.specs.Meaning.{HasNoEntry, covering, recording_of, step_at, step_effect}
use Rattle.trace.proofs.Writing.{covers_writes, effect_one, no_step}
use Rattle.history.specs.declared.cells.History.{History}
use Rattle.history.specs.Held.{held}
use Rattle.candidates.specs.declared.turns.Turn.{Turn}
use Rattle.candidates.specs.Turns.{written_by, added, turned, Follows}
use Rattle.candidates.specs.Gathering.{FirstAbove, NoneAbove}

-- the effect of an entry is that of its step
pub effect_step : (base : Image) (t : Trace) (k : ℕ) → effect_at (recording_of base t) k ≡ step_effect (vec_items t.sectors) (step_at (vec_items t.steps) k)
effect_step base t zero = refl
effect_step base t (suc i) = effect_one t i

-- no entry, no turn
pub no_turn : (base : Image) (t : Trace) (k s : ℕ) (h : List ℕ) → HasNoEntry t k → h ≡ turn (effect_at (recording_of base t) k) s k h
no_turn base t k s h n =
    sym (ap (λ e. turn e s k h) (effect_step base t k ∙ ap (step_effect (vec_items t.sectors)) (no_step t k n)) ∙ ap (λ b. cond b (put h k) h) (and_right (leb 0 s) (ltb s 0) (le-ltb s 0 (omega arith))))

-- the turn of a step is what its effect does to a history
pub step_turn : (sectors : List Sector) (step : Step) (s number : ℕ) (puts : Option ℕ) (held : List ℕ) → puts ≡ then_some (covering step s) number →
    turned (record { settles = step.flush; puts = puts; fua = step.fua }) held ≡ turn (step_effect sectors step) s number held
step_turn sectors step s number puts held e =
    ap (λ p. added p step.fua after) e ∙ go (covering step s) ∙ ap (λ b. cond b (written_by step.fua number after) after) (covers_writes sectors step s)
  where
    after : List ℕ
    after = cond step.flush (settle held) held

    go : (b : Bool) → added (then_some b number) step.fua after ≡ cond b (written_by step.fua number after) after
    go true = refl
    go false = refl

module _ (base : Image) (t : Trace) (s : ℕ) where
  pub numbers_start : numbers (recording_of base t) 0 s ≡ 0 ∷ []
  unfolding walk
  numbers_start = sym (walk_numbers (recording_of base t) s 0)

  pub numbers_more : (k : ℕ) → numbers (recording_of base t) (k + 1) s ≡ turn (effect_at (recording_of base t) (k + 1)) s (k + 1) (numbers (recording_of base t) k s)
  unfolding walk
  numbers_more k =
      let d = recording_of base t in
      ap (λ n. numbers d n s) (add-one k)
      ∙ sym (walk_numbers d s (suc k))
      ∙ ap (turn (effect_at d (suc k)) s (suc k)) (walk_numbers d s k)
      ∙ ap (λ n. turn (effect_at d n) s n (numbers d k s)) (sym (add-one k))

module _ (start : Node) (marks : List Mark) (n : ℕ) where
  pub values_start : node_values start marks n 0 ≡ start ∷ []
  unfolding node_values
  values_start = refl

  pub values_more : (k : ℕ) → node_values start marks n (k + 1) ≡ node_turn (mark_at marks (k + 1)) n (node_values start marks n k)
  unfolding node_values
  values_more k = ap (node_values start marks n) (add-one k) ∙ ap (λ j. node_turn (mark_at marks j) n (node_values start marks n k)) (sym (add-one k))

-- a history never holds more than eight values
pub held_few : {X : Type 0} (h : History X) → length (held h) ≤ 8
held_few h = let l = length-take h.used h.cells.now in let m = h.most in omega arith

-- the history holds the list of point k, and no list so far is longer than 8
abbrev pub HoldsUpTo : {X : Type 0} → (ℕ → List X) → (k : ℕ) → List X → Type 0
HoldsUpTo at k held = (held ≡ at k) × NoneAbove (λ q. length (at q)) k

module _ {X : Type 0} {gives : ℕ → Turn X → Type 0} {start : X} {p : ℕ} {at : ℕ → List X} (f : Follows gives start p at) where
  pub holds_start : (h : List X) → h ≡ start ∷ [] → HoldsUpTo at 0 h
  holds_start h e = (e ∙ sym f.first, λ q l. let z : 0 ≡ q = omega arith in subst (λ (k : ℕ). length (at k) ≤ 8) z (let m = ap length f.first in omega arith))

  pub holds_on : (k : ℕ) (t : Turn X) (h on : List X) → k < p → gives (k + 1) t → HoldsUpTo at k h → on ≡ turned t h → length on ≤ 8 → HoldsUpTo at (k + 1) on
  holds_on k t h on low g i e l =
      let n : on ≡ at (k + 1) = e ∙ ap (turned t) i.0 ∙ sym (f.next k t low g) in (
        n,
        λ q le. elim (cases_lt q (k + 1)) [
          | inl a ↦ i.1 q (omega arith)
          | inr a ↦ let z : k + 1 ≡ q = omega arith in subst (λ (m : ℕ). length (at m) ≤ 8) z (subst (λ (y : List X). length y ≤ 8) n l)
        ],
      )

  pub too_many : (k : ℕ) (t : Turn X) (h : List X) → k < p → gives (k + 1) t → HoldsUpTo at k h → 8 < length (turned t h) → FirstAbove (λ q. length (at q)) p (k + 1)
  too_many k t h low g i l =
      let n : turned t h ≡ at (k + 1) = ap (turned t) i.0 ∙ sym (f.next k t low g) in
      (omega arith, subst (λ (y : List X). 8 < length y) n l, λ j a. i.1 j (omega arith))
