-- A look shows a sector of the standing state, or is declined as the rules say.
use Rattle.std.proofs.Common.{◌≡◌, ℕ, cond, ltb, length, Ok, Err, IfErr, Result, refl, ap, ◌∙◌, arith}
use Rattle.std.proofs.lemmas.Bool.{eq-eqb, ne_eqb, le-ltb}
use Rattle.image.specs.Sectors.{Image}
use Rattle.image.specs.declared.refusal.Refusal.TheVariants.{BufferLength, SectorNumber}
use Rattle.filesystem.specs.Outcomes.{Outcome}
use Rattle.law.specs.Subject.{Subject}
use Rattle.law.specs.History as H
use Rattle.law.specs.Rules.{Refusal, of_standing, of_sector, none, by}
use Rattle.law.specs.Steps.{Step}
use Rattle.law.specs.Law.{call_of}
use Rattle.meaning.specs.Subjects.{subject_of}
use Rattle.progress.specs.declared.condition.Condition.{Condition}
use Rattle.progress.specs.declared.condition.Condition.TheVariants.{Empty, Ready, Waiting, Judged, Left, Ended}
use Rattle.progress.specs.declared.condition.Progress.{Progress}
use Rattle.progress.specs.Views.{condition_of}
use Rattle.run.specs.declared.space.Space.{Space}
use Rattle.run.specs.declared.refusal.Refusal.{Refusal as RunRefusal}
use Rattle.run.specs.declared.refusal.Refusal.TheVariants.{Store, TooFewSectors, BaseFault, Recording, NothingLoaded, AlreadyLoaded, NoState, NotJudged, AlreadyJudged, HasEnded}
use Rattle.run.specs.declared.call.Answer.{Answer}
use Rattle.run.specs.declared.call.Answer.TheVariants.{Loaded, Next, Found, Forgone, Shown, Reported}
use Rattle.run.specs.Events.{event_of}
use Rattle.run.specs.Looks.{Viewed}
use Rattle.run.specs.Faults.{Blames}
use Rattle.run.specs.Moves.{WaitingIn}
use Rattle.run.specs.Valid.{Valid, view_by}
use Rattle.run.proofs.Stepping.{shows}

standing_refusal : (c : Condition) (w : ℕ) → WaitingIn c w → (x : Refusal) → of_standing x (condition_of c) ≡ x
standing_refusal Empty w h x = absurd h
standing_refusal Ready w h x = absurd h
standing_refusal Waiting w h x = refl
standing_refusal Judged w h x = refl
standing_refusal Left w h x = absurd h
standing_refusal Ended w h x = absurd h

pub look_fits : (state : Image) (sector size : ℕ) (r : Result Answer RunRefusal) → Viewed state sector size r → call_of (event_of (H.look sector size) r) ≡ H.look sector size
look_fits state sector size (Err (Store BufferLength)) v = refl
look_fits state sector size (Err (Store SectorNumber)) v = refl
look_fits state sector size (Err TooFewSectors) v = absurd v
look_fits state sector size (Err (BaseFault fault)) v = absurd v
look_fits state sector size (Err (Recording f)) v = absurd v
look_fits state sector size (Err NothingLoaded) v = absurd v
look_fits state sector size (Err AlreadyLoaded) v = absurd v
look_fits state sector size (Err NoState) v = absurd v
look_fits state sector size (Err NotJudged) v = absurd v
look_fits state sector size (Err AlreadyJudged) v = absurd v
look_fits state sector size (Err HasEnded) v = absurd v
look_fits state sector size (Ok Loaded) v = absurd v
look_fits state sector size (Ok (Next next)) v = absurd v
look_fits state sector size (Ok (Found j)) v = absurd v
look_fits state sector size (Ok Forgone) v = absurd v
look_fits state sector size (Ok (Shown content)) v = refl
look_fits state sector size (Ok (Reported r)) v = absurd v

pub look_blames : (o : Outcome) (state : Image) (sector size : ℕ) (r : Result Answer RunRefusal) → Viewed state sector size r → IfErr r (Blames o)
look_blames o state sector size (Err (Store f)) v = tt
look_blames o state sector size (Err TooFewSectors) v = absurd v
look_blames o state sector size (Err (BaseFault fault)) v = absurd v
look_blames o state sector size (Err (Recording f)) v = absurd v
look_blames o state sector size (Err NothingLoaded) v = absurd v
look_blames o state sector size (Err AlreadyLoaded) v = absurd v
look_blames o state sector size (Err NoState) v = absurd v
look_blames o state sector size (Err NotJudged) v = absurd v
look_blames o state sector size (Err AlreadyJudged) v = absurd v
look_blames o state sector size (Err HasEnded) v = absurd v
look_blames o state sector size (Ok answer) v = tt

module _ (least : ℕ) (outcome : Image → Outcome) (base state : Image) (space : Space) (p : Progress) (V : Valid outcome base state space p) (w : ℕ) (h : WaitingIn p.condition w) (l : length state ≡ length base) (sector size : ℕ) where
  abbrev s : Subject
  s = subject_of least outcome base

  look_declined : (n : ℕ) → of_sector (length base) sector size ≡ by n → Step s (view_by outcome base space p) (H.declined (H.look sector size) n 0) (view_by outcome base space p)
  look_declined n e = (standing_refusal p.condition w h (of_sector (length base) sector size) ∙ e, refl)

  pub looks : (r : Result Answer RunRefusal) → Viewed state sector size r → Step s (view_by outcome base space p) (event_of (H.look sector size) r) (view_by outcome base space p)
  looks (Err (Store BufferLength)) v = look_declined 1 (ap (λ b. cond b (cond (ltb sector (length base)) none (by 2)) (by 1)) (ne_eqb size 512 v))
  looks (Err (Store SectorNumber)) v = look_declined 2 (ap (λ b. cond b (cond (ltb sector (length base)) none (by 2)) (by 1)) (eq-eqb size 512 v.0) ∙ ap (λ b. cond b none (by 2)) (le-ltb sector (length base) (let m = v.1 in omega arith)))
  looks (Err TooFewSectors) v = absurd v
  looks (Err (BaseFault fault)) v = absurd v
  looks (Err (Recording f)) v = absurd v
  looks (Err NothingLoaded) v = absurd v
  looks (Err AlreadyLoaded) v = absurd v
  looks (Err NoState) v = absurd v
  looks (Err NotJudged) v = absurd v
  looks (Err AlreadyJudged) v = absurd v
  looks (Err HasEnded) v = absurd v
  looks (Ok Loaded) v = absurd v
  looks (Ok (Next next)) v = absurd v
  looks (Ok (Found j)) v = absurd v
  looks (Ok Forgone) v = absurd v
  looks (Ok (Shown content)) v = shows least outcome base state space p V sector size content w h v.0 (let m = v.1 in omega arith) v.2
  looks (Ok (Reported r)) v = absurd v
