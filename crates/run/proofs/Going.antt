-- A history goes on by each step, and begins with the run.
use Rattle.std.proofs.Common.{◌≡◌, sym, ap, ◌∙◌, subst}
use Rattle.image.specs.declared.store.ImageStore.{Ghosts as StoreMeaning}
use Rattle.filesystem.specs.declared.system.FileSystem.{Ghosts as SystemMeaning}
use Rattle.law.specs.Subject.{Subject}
use Rattle.law.specs.History.{Event, begun, then}
use Rattle.law.specs.Steps.{Step, Reached}
use Rattle.meaning.specs.Subjects.{subject_of}
use Rattle.progress.specs.Moves as M
use Rattle.run.specs.declared.run.Run.{Run}
use Rattle.run.specs.Valid.{view_by}
use Rattle.run.specs.Seen.{Goes, Kept, Led, Went, base_of, subject, view}

module _ {S F : Type 0} {store : StoreMeaning S} {system : SystemMeaning F} where
  subject_same : (before after : Run S F store system) → Kept before after → subject before ≡ subject after
  subject_same before after k = ap (λ x. subject_of system.LEAST (system.outcome before.fs) (store.sectors x)) (sym k.0) ∙ ap (λ f. subject_of system.LEAST (system.outcome f) (base_of after)) (sym k.1)

  pub going : (before after : Run S F store system) (e : Event) → Kept before after → Goes before e after → Went before e after
  going before after e k G s h L =
      let P : Subject → Type 0 = λ x. Step x (view before) e (view after) in
      (sym (subject_same before after k) ∙ L.0, (view before, L.1, subst P L.0 G))

  -- a run that has just begun
  pub beginning : (run : Run S F store system) (store' : S) (fs : F) → run.layers.below.below ≡ store' → run.fs ≡ fs → run.progress ≡ M.begun → Led (subject_of system.LEAST (system.outcome fs) (store.sectors store')) begun run
  beginning run store' fs a b e =
      let same : subject run ≡ subject_of system.LEAST (system.outcome fs) (store.sectors store') = ap (λ x. subject_of system.LEAST (system.outcome run.fs) (store.sectors x)) a ∙ ap (λ x. subject_of system.LEAST (system.outcome x) (store.sectors store')) b in
      let P : Subject → Type 0 = λ s. Reached s begun (view run) in
      (same, subst P same (ap (λ p. view_by (system.outcome run.fs) (base_of run) run.space p) e))
