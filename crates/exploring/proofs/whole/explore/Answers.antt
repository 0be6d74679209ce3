-- The run has just begun over this base and this file system.
use Rattle.std.proofs.Common.{IfErr, IfOk, ap, subst}
use Rattle.law.specs.Subject.{Subject}
use Rattle.law.specs.History.{begun, load}
use Rattle.law.specs.Steps.{Step}
use Rattle.meaning.specs.Subjects.{subject_of}
use Rattle.run.specs.Refusals.{code_of}
use Rattle.run.specs.Events.{declining}
use Rattle.run.specs.Seen.{subject, view}
use Rattle.exhaust.specs.Stops.{ByWatcher}
use Rattle.exhaust.specs.Told.{ToldAll, ToldUpTo}
use Rattle.exploring.specs.Outcomes.{DeclinedAs}
use Rattle.exploring.proofs.Declining.{declined_as, by_run}
use Rattle.exploring.proofs.whole.explore.Goals as goal

pub returns-clause-declined : goal.returns-clause-declined
returns-clause-declined g c =
    let run = c.begin-run.result in
    let after = c.explore_all-outcome.new.run in
    let s = subject_of g.F.FileSystem.LEAST (g.F.FileSystem.outcome c.args.fs) (g.S.ImageStore.sectors c.args.base) in
    let bytes = c.args.recording.now in
    let led = c.begin-run.ensures.led in
    by_run (λ f. DeclinedAs s bytes (code_of f)) c.explore_all-outcome.result (λ f e.
    let S : Step (subject run) (view run) (declining (load bytes) (code_of f)) (view after) = c.explore_all-outcome.ensures.declined f e in
    let P : Subject → Type 0 = λ x. Step x (view run) (declining (load bytes) (code_of f)) (view after) in
    declined_as s (view run) (view after) bytes (ap (λ v. v.condition) led.1) (code_of f) (subst P led.0 S))

pub returns-clause-heard : goal.returns-clause-heard
returns-clause-heard g c =
    let P : Subject → Type 0 = λ s. IfOk c.explore_all-outcome.result (λ report. ToldAll g.W.Watch.hears s c.args.recording.now c.args.watch.now c.explore_all-outcome.new.watch) in
    subst P c.begin-run.ensures.led.0 c.explore_all-outcome.ensures.heard

pub returns-clause-stopped : goal.returns-clause-stopped
returns-clause-stopped g c =
    let P : Subject → Type 0 = λ s. IfErr c.explore_all-outcome.result (ByWatcher (λ stop. ToldUpTo g.W.Watch.hears s c.args.recording.now c.args.watch.now stop c.explore_all-outcome.new.watch)) in
    subst P c.begin-run.ensures.led.0 c.explore_all-outcome.ensures.stopped

pub returns-clause-explored : goal.returns-clause-explored
returns-clause-explored g c = c.explore_all-outcome.ensures.explored (subject_of g.F.FileSystem.LEAST (g.F.FileSystem.outcome c.args.fs) (g.S.ImageStore.sectors c.args.base)) begun c.begin-run.ensures.led
