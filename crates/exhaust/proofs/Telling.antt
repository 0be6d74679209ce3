-- What a watcher is told is the list, from its front.
use Rattle.std.proofs.Common.{◌≡◌, ℕ, List, [], ◌∷◌, ◌++◌, sym, refl, ap, ◌∙◌, subst}
use Rattle.law.specs.Subject.{Subject, Recording, State, Sound, list, image}
use Rattle.law.specs.History as H
use Rattle.law.specs.History.{up_to}
use Rattle.law.specs.Steps.{View, Step, next}
use Rattle.law.proofs.States.{through, up_to_is}
use Rattle.law.proofs.Facts.{part, Place, Within, Follows, follows, closes}
use Rattle.judging.specs.declared.judgement.Judgement.{Judgement}
use Rattle.judging.specs.Codes.{code_of}
use Rattle.exhaust.specs.Told.{Telling, quiet, told, states_told, Right}

-- so far it was told the states that are passed, and of each what the rules find
pub record Sofar (s : Subject) (R : Recording) (v : View) (t : Telling) : Type 0 where
  pub states : states_told t ≡ part R v.condition v.standing
  pub place : Place s R v.condition v.standing
  pub right : Right R t

pub at_first : (s : Subject) (R : Recording) (v : View) → v.condition ≡ H.Ready → Sound s.base s.outcome R → Sofar s R v quiet
at_first s R v e S =
    let P : H.Condition → Type 0 = λ c. Place s R c v.standing in
    record { states = sym (ap (λ c. part R c v.standing) e); place = subst P (sym e) S; right = tt }

module _ (s s1 : Subject) (R : Recording) (v m : View) (x : State) (t : Telling) (rec : v.recording ≡ R) (F : Sofar s R v t) (S : Step s1 v (H.gave x) m) where
  gives : Follows s R v.condition v.standing x
  gives = follows s R v.standing v.condition x F.place S.0 (ap (λ (r : Recording). next r v.condition v.standing) (sym rec) ∙ S.1)

  up_through : states_told t ++ x ∷ [] ≡ through R x
  up_through = ap (λ (l : List State). l ++ x ∷ []) F.states ∙ sym gives.grows

  pub up_to_now : states_told t ++ x ∷ [] ≡ up_to x (list R)
  up_to_now = up_through ∙ sym (up_to_is R x gives.place.point gives.place.rank)

  module _ (s2 : Subject) (w : View) (j : Judgement) (T : Step s2 m (H.found (code_of j).0 (code_of j).1) w) where
    pub found_right : Right R (told t x j)
    found_right =
        let rec' : m.recording ≡ R = ap (λ (y : View). y.recording) S.2 ∙ rec in
        let here : m.standing ≡ x = ap (λ (y : View). y.standing) S.2 in
        (F.right, T.1 ∙ ap (λ (r : Recording). r.judgement m.standing.0 (image r m.standing)) rec' ∙ ap (λ (y : State). R.judgement y.0 (image R y)) here)

    pub one_more : Sofar s R w (told t x j)
    one_more =
        let c : w.condition ≡ H.Judged = ap (λ (y : View). y.condition) T.2 in
        let y : w.standing ≡ x = ap (λ (y : View). y.standing) T.2 ∙ ap (λ (y : View). y.standing) S.2 in
        let P : H.Condition → Type 0 = λ k. states_told (told t x j) ≡ part R k w.standing in
        let P' : State → Type 0 = λ z. states_told (told t x j) ≡ part R H.Judged z in
        let Q : H.Condition → Type 0 = λ k. Place s R k w.standing in
        let Q' : State → Type 0 = λ z. Place s R H.Judged z in
        record { states = subst P (sym c) (subst P' (sym y) up_through); place = subst Q (sym c) (subst Q' (sym y) gives.place); right = found_right }

pub all_told : (s s1 : Subject) (R : Recording) (v w : View) (t : Telling) → v.recording ≡ R → Sofar s R v t → Step s1 v H.ended w → states_told t ≡ list R
all_told s s1 R v w t rec F S = F.states ∙ (closes s R v.standing v.condition F.place S.0 (ap (λ (r : Recording). next r v.condition v.standing) (sym rec) ∙ S.1)).all
