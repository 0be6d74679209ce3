-- How a search goes on from state to state.
use Rattle.std.proofs.Common.{◌≡◌, ℕ, ◌+◌, ◌≤◌, true, ◌⊎◌, List, Some, None, is_ok, Ok, Err, Option, Result, sym, refl, ap, ◌∙◌, inl, inr, arith}
use Rattle.law.specs.Subject.{Subject, Recording, takes, meaning}
use Rattle.law.specs.History as H
use Rattle.law.specs.Rules.{of_advance, of_judge, none}
use Rattle.law.specs.Steps.{View, Step}
use Rattle.law.proofs.Facts.{loading}
use Rattle.judging.specs.declared.judgement.Judgement.{Judgement}
use Rattle.progress.specs.declared.condition.Condition.{Condition}
use Rattle.progress.specs.declared.condition.Condition.TheVariants.{Empty, Ready, Waiting, Judged, Left, Ended}
use Rattle.progress.specs.declared.condition.Progress.{Progress}
use Rattle.progress.specs.Views.{condition_of}
use Rattle.progress.specs.Bounds.{Bounded, at_sum, at_room, ceiling}
use Rattle.run.specs.declared.refusal.Refusal.{Refusal}
use Rattle.run.specs.Refusals.{code_of}
use Rattle.run.specs.Events.{declining}
use Rattle.run.specs.Typed.{advancing, judging}

-- Nothing is forgone, so many states are passed, and the next is to be given.
pub record Going (R : Recording) (n : ℕ) (v : View) : Type 0 where
  pub recording : v.recording ≡ R
  pub none_forgone : v.forgone ≡ 0
  pub passed : v.passed ≡ n
  pub ready : (v.condition ≡ H.Ready) ⊎ (v.condition ≡ H.Judged)

-- BOUNDS. A Ready run has passed nothing.
ready_at : (p : Progress) → Bounded p → (c : Condition) → p.condition ≡ c → condition_of c ≡ H.Ready → (p.passed ≡ 0) × (p.forgone ≡ 0)
ready_at p b Empty e h = cc
ready_at p b Ready e h = let r = at_room p b Ready e in let s = at_sum p b Ready e in (omega arith, omega arith)
ready_at p b Waiting e h = cc
ready_at p b Judged e h = cc
ready_at p b Left e h = cc
ready_at p b Ended e h = cc

pub ready_bounds : (p : Progress) → Bounded p → condition_of p.condition ≡ H.Ready → (p.passed ≡ 0) × (p.forgone ≡ 0)
ready_bounds p b h = ready_at p b p.condition refl h

ceiling_low : (c : Condition) (n : ℕ) → n ≤ 256 → ceiling c n ≤ 269484032
ceiling_low Empty n h = omega arith
ceiling_low Ready n h = omega arith
ceiling_low Waiting n h = omega arith
ceiling_low Judged n h = omega arith
ceiling_low Left n h = omega arith
ceiling_low Ended n h = omega arith

pub passed_low : (p : Progress) → Bounded p → p.passed ≤ 269484032
passed_low p b = let c = ceiling_low p.condition p.point (let h = b.here in let l = b.last in omega arith) in let r = b.room in omega arith

-- STEPS. What a load that is accepted takes.
pub loads : (s : Subject) (bytes : List ℕ) (v w : View) → Step s v (H.loaded bytes) w → (R : Recording) × (s.loads bytes ≡ takes R) × (w.recording ≡ R) × (w.condition ≡ H.Ready)
loads s bytes v w S =
    let t = loading (s.loads bytes) v.condition S.0 in
    (t.1.0, t.1.1, ap (λ (x : View). x.recording) S.1 ∙ ap meaning t.1.1, ap (λ (x : View). x.condition) S.1)

-- an advance of a run that is ready is accepted
accepted : (c : H.Condition) → (c ≡ H.Ready) ⊎ (c ≡ H.Judged) → of_advance c ≡ none
accepted c (inl e) = ap of_advance e
accepted c (inr e) = ap of_advance e

declines_not : (s : Subject) (v w : View) (o : Option (ℕ × ℕ)) → of_advance v.condition ≡ none → Step s v (declining H.advance o) w → ⊥
declines_not s v w (Some c) a S = let d : None ≡ Some (c.0, c.1) = sym a ∙ S.0 in cc
declines_not s v w None a S = let d : None ≡ Some (0, 0) = sym a ∙ S.0 in cc

pub advance_ok : (s : Subject) (R : Recording) (n : ℕ) (v w : View) → Going R n v → (r : Result (Option (ℕ × ℕ)) Refusal) → Step s v (advancing r) w → is_ok r ≡ true
advance_ok s R n v w G (Ok x) S = refl
advance_ok s R n v w G (Err f) S = absurd (declines_not s v w (code_of f) (accepted v.condition G.ready) S)

judge_declines_not : (s : Subject) (v w : View) (o : Option (ℕ × ℕ)) → of_judge v.condition ≡ none → Step s v (declining H.judge o) w → ⊥
judge_declines_not s v w (Some c) a S = let d : None ≡ Some (c.0, c.1) = sym a ∙ S.0 in cc
judge_declines_not s v w None a S = let d : None ≡ Some (0, 0) = sym a ∙ S.0 in cc

pub judge_ok : (s : Subject) (v w : View) → v.condition ≡ H.Waiting → (r : Result Judgement Refusal) → Step s v (judging r) w → is_ok r ≡ true
judge_ok s v w e (Ok j) S = refl
judge_ok s v w e (Err f) S = absurd (judge_declines_not s v w (code_of f) (ap of_judge e) S)

-- a state given, and then judged
pub given_waits : (s : Subject) (v m : View) (x : ℕ × ℕ) → Step s v (H.gave x) m → m.condition ≡ H.Waiting
given_waits s v m x S = ap (λ (y : View). y.condition) S.2

pub goes_on : (s s' : Subject) (R : Recording) (n : ℕ) (v m w : View) (x : ℕ × ℕ) (o k : ℕ) → Going R n v → Step s v (H.gave x) m → Step s' m (H.found o k) w → Going R (n + 1) w
goes_on s s' R n v m w x o k G S T =
    record {
      recording = ap (λ (y : View). y.recording) T.2 ∙ ap (λ (y : View). y.recording) S.2 ∙ G.recording;
      none_forgone = ap (λ (y : View). y.forgone) T.2 ∙ ap (λ (y : View). y.forgone) S.2 ∙ G.none_forgone;
      passed = ap (λ (y : View). y.passed) T.2 ∙ ap (λ (y : View). y.passed) S.2 ∙ ap (λ p. p + 1) G.passed;
      ready = inr (ap (λ (y : View). y.condition) T.2);
    }

-- no state is left
pub record Over (R : Recording) (w : View) : Type 0 where
  pub recording : w.recording ≡ R
  pub none_forgone : w.forgone ≡ 0
  pub ended : w.condition ≡ H.Ended

pub over : (s : Subject) (R : Recording) (n : ℕ) (v w : View) → Going R n v → Step s v H.ended w → Over R w
over s R n v w G S =
    record {
      recording = ap (λ (y : View). y.recording) S.2 ∙ G.recording;
      none_forgone = ap (λ (y : View). y.forgone) S.2 ∙ G.none_forgone;
      ended = ap (λ (y : View). y.condition) S.2;
    }
