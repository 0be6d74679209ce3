-- A load that an Empty run declines is declined as the rules say.
use Rattle.std.proofs.Common.{◌≡◌, ℕ, List, Some, None, Ok, Err, IfErr, Option, Result, sym, refl, ap, ◌∙◌}
use Rattle.law.specs.Subject.{Subject, Loading, takes, declines}
use Rattle.law.specs.History as H
use Rattle.law.specs.Rules.{refusal, of_recording}
use Rattle.law.specs.Steps.{View, Step}
use Rattle.run.specs.declared.refusal.Refusal.{Refusal}
use Rattle.run.specs.Events.{declining}
use Rattle.exhaust.specs.declared.watch.Stopped.{Stopped}
use Rattle.exhaust.specs.declared.watch.Stopped.TheVariants.{Declined, Watcher}
use Rattle.exhaust.specs.Stops.{ByRun}
use Rattle.exploring.specs.Outcomes.{DeclinedAs}

by_rules : (l : Loading) (c : ℕ × ℕ) → of_recording l ≡ Some (c.0, c.1) → l ≡ declines c.0 c.1
by_rules (takes R) c e = cc
by_rules (declines n p) c e = cc

pub declined_as : (s : Subject) (v w : View) (bytes : List ℕ) → v.condition ≡ H.Empty → (o : Option (ℕ × ℕ)) → Step s v (declining (H.load bytes) o) w → DeclinedAs s bytes o
declined_as s v w bytes e (Some c) S = by_rules (s.loads bytes) c (sym (ap (λ x. refusal s x (H.load bytes)) e) ∙ S.0)
declined_as s v w bytes e None S = S.1

pub by_run : {A E : Type 0} (P : Refusal → Type 0) (r : Result A (Stopped E)) → ((f : Refusal) → r ≡ Err (Declined f) → P f) → IfErr r (ByRun P)
by_run P (Ok a) h = tt
by_run P (Err (Declined f)) h = h f refl
by_run P (Err (Watcher stop)) h = tt
