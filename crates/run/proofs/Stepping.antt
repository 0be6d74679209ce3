-- Each move of a valid run is a step of the law and leaves the run valid.
use Rattle.std.proofs.Common.{◌≡◌, ℕ, ◌+◌, ◌<◌, ◌≤◌, cond, not, eqb, ltb, List, [], length, get_or, Some, None, sym, refl, ap, ◌∙◌, subst, inl, inr, arith}
use Rattle.std.proofs.lemmas.Bool.{eq-eqb, lt-ltb, le-ltb, le-leb, lt-leb}
use Rattle.image.specs.Sectors.{Image}
use Rattle.filesystem.specs.Outcomes.{Outcome, a_tree}
use Rattle.crash.specs.States.{states}
use Rattle.trace.specs.declared.steps.Trace.{Trace}
use Rattle.trace.specs.Meaning.{recording_of, effects_of, marks_of}
use Rattle.law.specs.Subject.{Subject, Recording, count}
use Rattle.law.specs.History as H
use Rattle.law.specs.Rules.{refusal, none, by}
use Rattle.law.specs.Steps.{View, Step, next, enter}
use Rattle.meaning.specs.Meanings.{meaning_by}
use Rattle.meaning.specs.Subjects.{subject_of}
use Rattle.progress.specs.declared.condition.Condition.{Condition}
use Rattle.progress.specs.declared.condition.Condition.TheVariants.{Empty, Ready, Waiting, Judged, Left, Ended}
use Rattle.progress.specs.declared.condition.Progress.{Progress}
use Rattle.progress.specs.Moves.{plus, entered, stepped, ended, judged_as, left}
use Rattle.progress.specs.Views.{condition_of, view_of}
use Rattle.progress.specs.Bounds.{Bounded, first_bounded, judged_bounded, left_bounded, stepped_bounded, judged_ended, left_ended, judged_as_bounded, judged_noted, waiting_left, judged_left, few, enter_view, step_view, judge_view, forgo_view, at_room}
use Rattle.meaning.specs.Judgements.{judgement}
use Rattle.judging.specs.Tables.{values_in}
use Rattle.judging.specs.Same.{same_values}
use Rattle.standing.specs.declared.choice.Choice.{Choice}
use Rattle.standing.specs.Standing.{Stands}
use Rattle.taking.specs.Taking.{Fit}
use Rattle.run.specs.declared.space.Space.{Space}
use Rattle.run.specs.Standing.{At, Laid}
use Rattle.run.specs.Moves.{Enters, WaitingIn}
use Rattle.run.specs.Valid.{meaning_in, recording_in, Loaded, Stage, Valid, view_by}

-- the same step between the same views
pub step_by : (s : Subject) (v v' w w' : View) (e : H.Event) → w ≡ v → w' ≡ v' → Step s v e v' → Step s w e w'
step_by s v v' w w' e p q h =
    let P : View → Type 0 = λ x. Step s x e v' in
    let Q : View → Type 0 = λ x. Step s w e x in
    subst Q (sym q) (subst P (sym p) h)

-- the same but for the choice of candidates
abbrev pub with_choice : Space → Choice → Space
with_choice space choice = record { trace = space.trace; tree = space.tree; choice = choice; values = space.values }

module _ (least : ℕ) (outcome : Image → Outcome) (base : Image) where
  abbrev s : Subject
  s = subject_of least outcome base

  -- a run in a condition with something loaded
  seen : (space : Space) (p : Progress) (c : Condition) → p.condition ≡ c → recording_in c (meaning_in outcome base space) ≡ meaning_in outcome base space → view_by outcome base space p ≡ view_of base (meaning_in outcome base space) p
  seen space p c e r = ap (λ R. view_of base R p) (ap (λ x. recording_in x (meaning_in outcome base space)) e ∙ r)

  pub stage_at : (state : Image) (space : Space) (p : Progress) (c : Condition) → p.condition ≡ c → Stage p.condition outcome base state space p → Stage c outcome base state space p
  stage_at state space p c e h = let P : Condition → Type 0 = λ x. Stage x outcome base state space p in subst P e h

  module _ (state : Image) (space : Space) (p : Progress) (V : Valid outcome base state space p) where
    abbrev R : Recording
    R = meaning_in outcome base space

    abbrev from : (c : Condition) → p.condition ≡ c → Stage c outcome base state space p
    from c e = stage_at state space p c e V.stage

    -- what is loaded, and the next state, where a point is entered
    pub entering_loaded : (q : ℕ) → Enters p q → Loaded outcome base space p.last
    entering_loaded q (inl h) = (from Ready h.0).1
    entering_loaded q (inr (inl h)) = (from Judged h.0).0
    entering_loaded q (inr (inr h)) = from Left h.0

    entering_recording : (q : ℕ) → Enters p q → recording_in p.condition R ≡ R
    entering_recording q (inl h) = ap (λ x. recording_in x R) h.0
    entering_recording q (inr (inl h)) = ap (λ x. recording_in x R) h.0
    entering_recording q (inr (inr h)) = ap (λ x. recording_in x R) h.0

    entering_accepted : (q : ℕ) → Enters p q → refusal s (condition_of p.condition) H.advance ≡ none
    entering_accepted q (inl h) = ap (λ x. refusal s (condition_of x) H.advance) h.0
    entering_accepted q (inr (inl h)) = ap (λ x. refusal s (condition_of x) H.advance) h.0
    entering_accepted q (inr (inr h)) = ap (λ x. refusal s (condition_of x) H.advance) h.0

    entering_next : (q : ℕ) → Enters p q → next R (condition_of p.condition) (p.point, p.rank) ≡ enter R.last q
    entering_next q (inl h) = ap (λ x. next R (condition_of x) (p.point, p.rank)) h.0 ∙ ap (enter R.last) (sym h.1)
    entering_next q (inr (inl h)) =
        let A = (from Judged h.0).1 in
        let k : count R p.point ≤ p.rank + 1 = let c = A.count in let d = h.1 in omega arith in
        ap (λ x. next R (condition_of x) (p.point, p.rank)) h.0
        ∙ ap (λ b. cond b (Some (p.point, p.rank + 1)) (enter R.last (p.point + 1))) (le-ltb (p.rank + 1) (count R p.point) k)
        ∙ ap (enter R.last) (sym h.2)
    entering_next q (inr (inr h)) = ap (λ x. next R (condition_of x) (p.point, p.rank)) h.0 ∙ ap (enter R.last) (sym h.1)

    entered_bounded : (q n : ℕ) → Enters p q → q ≤ p.last → 0 < n → n ≤ 1048576 → Bounded (entered q n p)
    entered_bounded q n (inl h) l some few = let P : ℕ → Type 0 = λ x. Bounded (entered x n p) in subst P (sym h.1) (first_bounded p V.bounded n h.0 (from Ready h.0).0 some few)
    entered_bounded q n (inr (inl h)) l some few = let P : ℕ → Type 0 = λ x. Bounded (entered x n p) in let k = h.2 in subst P (sym h.2) (judged_bounded p V.bounded n h.0 (omega arith) some few)
    entered_bounded q n (inr (inr h)) l some few = let P : ℕ → Type 0 = λ x. Bounded (entered x n p) in let k = h.1 in subst P (sym h.1) (left_bounded p V.bounded n h.0 (omega arith) some few)

    ended_bounded : (q : ℕ) → Enters p q → p.last < q → Bounded (ended p)
    ended_bounded q (inl h) l = absurd (let z = h.1 in omega arith)
    ended_bounded q (inr (inl h)) l = judged_ended p V.bounded h.0
    ended_bounded q (inr (inr h)) l = left_ended p V.bounded h.0

    seen_entering : (q : ℕ) → Enters p q → view_by outcome base space p ≡ view_of base R p
    seen_entering q E = ap (λ x. view_of base x p) (entering_recording q E)

    -- no point follows
    pub ends : (q : ℕ) → Enters p q → p.last < q → Valid outcome base state space (ended p) × Step s (view_by outcome base space p) H.ended (view_by outcome base space (ended p))
    ends q E l =
        let L = entering_loaded q E in
        let k : R.last < q = let e = L.last in omega arith in (
          record { bounded = ended_bounded q E l; noted = V.noted; stage = L },
          step_by s (view_of base R p) (view_of base R (ended p)) (view_by outcome base space p) (view_by outcome base space (ended p)) H.ended (seen_entering q E) refl
              (entering_accepted q E, entering_next q E ∙ ap (λ b. cond b (Some (q, 0)) None) (lt-leb q R.last k), refl),
        )

    -- the first state of a point, upon which the tables are those of space'
    pub enters : (q n : ℕ) (space' : Space) (state' : Image) → Enters p q → q ≤ p.last → space'.trace ≡ space.trace → space'.tree ≡ space.tree → Laid base space' q n state' →
        Valid outcome base state' space' (entered q n p) × Step s (view_by outcome base space p) (H.gave (q, 0)) (view_by outcome base space' (entered q n p))
    enters q n space' state' E l t u D =
        let L = entering_loaded q E in
        let k : q ≤ R.last = let e = L.last in omega arith in
        let same : meaning_in outcome base space' ≡ R = ap (λ x. meaning_by outcome base x.nodes (effects_of space'.trace) (marks_of space'.trace)) u ∙ ap (λ x. meaning_by outcome base space.tree.nodes (effects_of x) (marks_of x)) t in
        let L' : Loaded outcome base space' p.last = loaded_same space' p.last L t u in (
          record { bounded = entered_bounded q n E l D.some D.few; noted = V.noted; stage = (L', D.at) },
          step_by s (view_of base R p) (view_of base R (entered q n p)) (view_by outcome base space p) (view_by outcome base space' (entered q n p)) (H.gave (q, 0)) (seen_entering q E) (ap (λ x. view_of base x (entered q n p)) same)
              (entering_accepted q E, entering_next q E ∙ ap (λ b. cond b (Some (q, 0)) None) (le-leb q R.last k), enter_view p V.bounded base R q n),
        )
      where
        loaded_same : (space' : Space) (m : ℕ) → Loaded outcome base space m → space'.trace ≡ space.trace → space'.tree ≡ space.tree → Loaded outcome base space' m
        loaded_same space' m L t u =
            let P : Trace → Type 0 = λ x. Fit base x in
            record {
              fit = subst P (sym t) L.fit;
              tree = L.tree ∙ ap (λ x. a_tree x.nodes) (sym u);
              last = L.last ∙ ap (λ x. length (effects_of x)) (sym t);
            }

    -- the next state of the same point
    pub steps : (choice : Choice) (state' : Image) → p.condition ≡ Judged → p.rank + 1 < length (states (recording_of base space.trace) p.point) →
        Stands (recording_of base space.trace) p.point (p.rank + 1) choice state' →
        Valid outcome base state' (with_choice space choice) (stepped p) × Step s (view_by outcome base space p) (H.gave (p.point, p.rank + 1)) (view_by outcome base (with_choice space choice) (stepped p))
    steps choice state' e l S =
        let L = (from Judged e).0 in
        let A = (from Judged e).1 in
        let b = V.bounded in
        let k = b.rank in
        let z : plus p.rank 1 ≡ p.rank + 1 = omega arith in
        let P : ℕ → Type 0 = λ x. At base (with_choice space choice) p.point x p.states state' in (
          record { bounded = stepped_bounded p b e (let c = A.count in omega arith); noted = V.noted; stage = (record { fit = L.fit; tree = L.tree; last = L.last }, subst P (sym z) (record { stands = S; values = A.values; count = A.count })) },
          step_by s (view_of base R p) (view_of base R (stepped p)) (view_by outcome base space p) (view_by outcome base (with_choice space choice) (stepped p)) (H.gave (p.point, p.rank + 1)) (seen space p Judged e refl) refl (
            ap (λ x. refusal s (condition_of x) H.advance) e,
            ap (λ x. next R (condition_of x) (p.point, p.rank)) e ∙ ap (λ y. cond y (Some (p.point, p.rank + 1)) (enter R.last (p.point + 1))) (lt-ltb (p.rank + 1) (count R p.point) l),
            step_view p b base R,
          ),
        )

    -- the standing state judged
    pub judges : (o n : ℕ) → p.condition ≡ Waiting → (o, n) ≡ judgement (values_in space.values) (outcome state) →
        Valid outcome base state space (judged_as (not (eqb o 0)) p) × Step s (view_by outcome base space p) (H.found o n) (view_by outcome base space (judged_as (not (eqb o 0)) p))
    judges o n e j =
        let L = (from Waiting e).0 in
        let A = (from Waiting e).1 in
        let b = V.bounded in (
          record { bounded = judged_as_bounded p b (not (eqb o 0)) e; noted = judged_noted (not (eqb o 0)) p V.noted; stage = (L, A) },
          step_by s (view_of base R p) (view_of base R (judged_as (not (eqb o 0)) p)) (view_by outcome base space p) (view_by outcome base space (judged_as (not (eqb o 0)) p)) (H.found o n) (seen space p Waiting e refl) refl (
            ap (λ x. refusal s (condition_of x) H.judge) e,
            j ∙ same_values (values_in space.values) (λ m. R.values p.point m) A.values (outcome state) ∙ ap (λ x. R.judgement p.point x) A.stands.shows,
            judge_view p b base R o,
          ),
        )

    -- the rest of the standing point left
    pub leaves : (w : ℕ) → WaitingIn p.condition w → Valid outcome base state space (left w p) × Step s (view_by outcome base space p) H.forwent (view_by outcome base space (left w p))
    leaves w h = by_case p.condition refl h
      where
        by_case : (c : Condition) → p.condition ≡ c → WaitingIn c w → Valid outcome base state space (left w p) × Step s (view_by outcome base space p) H.forwent (view_by outcome base space (left w p))
        by_case Empty e h = absurd h
        by_case Ready e h = absurd h
        by_case Left e h = absurd h
        by_case Ended e h = absurd h
        by_case Waiting e h =
            let L = (from Waiting e).0 in
            let A = (from Waiting e).1 in
            let b = V.bounded in
            let r = at_room p b Waiting e in
            let f = b.here in
            let g = b.last in
            let z : w ≡ H.waiting (condition_of p.condition) = h ∙ sym (ap (λ x. H.waiting (condition_of x)) e) in
            let P : ℕ → Type 0 = λ x. Bounded (left x p) in (
              record { bounded = subst P (sym h) (waiting_left p b e (let k = A.stands.rank in let c = A.count in omega arith)); noted = V.noted; stage = L },
              step_by s (view_of base R p) (view_of base R (left w p)) (view_by outcome base space p) (view_by outcome base space (left w p)) H.forwent (seen space p Waiting e refl) refl
                  (ap (λ x. refusal s (condition_of x) H.forgo) e, forgo_view p b base R w z (omega arith) (omega arith) (sym A.count)),
            )
        by_case Judged e h =
            let L = (from Judged e).0 in
            let A = (from Judged e).1 in
            let b = V.bounded in
            let r = at_room p b Judged e in
            let f = b.here in
            let g = b.last in
            let z : w ≡ H.waiting (condition_of p.condition) = h ∙ sym (ap (λ x. H.waiting (condition_of x)) e) in
            let P : ℕ → Type 0 = λ x. Bounded (left x p) in (
              record { bounded = subst P (sym h) (judged_left p b e); noted = V.noted; stage = L },
              step_by s (view_of base R p) (view_of base R (left w p)) (view_by outcome base space p) (view_by outcome base space (left w p)) H.forwent (seen space p Judged e refl) refl
                  (ap (λ x. refusal s (condition_of x) H.forgo) e, forgo_view p b base R w z (omega arith) (omega arith) (sym A.count)),
            )

    -- a sector of the standing state shown
    pub shows : (sector size : ℕ) (content : List ℕ) → (w : ℕ) → WaitingIn p.condition w → size ≡ 512 → sector < length base → content ≡ get_or state sector [] → Step s (view_by outcome base space p) (H.showed sector size content) (view_by outcome base space p)
    shows sector size content w h z l d = by_case p.condition refl h
      where
        open_ok : cond (eqb size 512) (cond (ltb sector (length base)) none (by 2)) (by 1) ≡ none
        open_ok = ap (λ x. cond x (cond (ltb sector (length base)) none (by 2)) (by 1)) (eq-eqb size 512 z) ∙ ap (λ x. cond x none (by 2)) (lt-ltb sector (length base) l)

        by_case : (c : Condition) → p.condition ≡ c → WaitingIn c w → Step s (view_by outcome base space p) (H.showed sector size content) (view_by outcome base space p)
        by_case Empty e h = absurd h
        by_case Ready e h = absurd h
        by_case Left e h = absurd h
        by_case Ended e h = absurd h
        by_case Waiting e h =
            step_by s (view_of base R p) (view_of base R p) (view_by outcome base space p) (view_by outcome base space p) (H.showed sector size content) (seen space p Waiting e refl) (seen space p Waiting e refl)
            (ap (λ x. refusal s (condition_of x) (H.look sector size)) e ∙ open_ok, d ∙ ap (λ x. get_or x sector []) (from Waiting e).1.stands.shows, refl)
        by_case Judged e h =
            step_by s (view_of base R p) (view_of base R p) (view_by outcome base space p) (view_by outcome base space p) (H.showed sector size content) (seen space p Judged e refl) (seen space p Judged e refl)
            (ap (λ x. refusal s (condition_of x) (H.look sector size)) e ∙ open_ok, d ∙ ap (λ x. get_or x sector []) (from Judged e).1.stands.shows, refl)
