-- The calls that were made are those of the script.
use Rattle.std.proofs.Common.{rules, ◌<◌, ◌≤◌, length, true, false, sym, ap, ◌∙◌, subst, arith}
use Rattle.std.specs.Option.{is_some}
use Rattle.std.proofs.lemmas.Bool.{false≢true}
use Rattle.image.specs.Sectors.{Image}
use Rattle.law.specs.History.{begun, then, reported}
use Rattle.law.specs.Law.{Law}
use Rattle.meaning.specs.Subjects.{subject_of}
use Rattle.progress.specs.Reports.{report_seen}
use Rattle.work.specs.Talks.{history_after}
use Rattle.exploring.proofs.Following.{followed, same_writer, written}
use Rattle.exploring.proofs.scripted.follow_script.Goals as goal

pub returns-in-Some : goal.returns-in-Some
returns-in-Some g c =
    let room : length c.args.calls.now ≤ c.saturating_add-budget.result = omega arith in
    let (t, stops, law) = c.whole_run-base.ensures.lawful in
    let Q : Image → Type 0 = λ b. Law (subject_of g.F.FileSystem.LEAST (g.F.FileSystem.outcome c.args.fs) (g.S.ImageStore.sectors c.args.base)) (then (history_after begun c.whole_run-base.ensures.lawful.0) (reported (report_seen c.whole_run-base.result.1))) b in (
      t,
      report_seen c.whole_run-base.result.1,
      followed _ (λ s. s.recording.now) (λ s. s.calls.now) (λ s. s.failed) (λ s. g.W.Write.contents s.out.now) (λ s. s.out.ghost_name) (λ s last call u x. x) _ c.whole_run-base.new.caller _ t false room stops (λ e bad. false≢true e),
      tt,
      subst Q (ap g.S.ImageStore.sectors c.whole_run-base.ensures.store) law,
    )

pub returns : goal.returns
returns g c =
    let room : length c.args.calls.now ≤ c.saturating_add-budget.result = omega arith in
    let more : length c.args.calls.now < c.saturating_add-budget.result = omega arith in
    let (t, stops, law) = c.whole_run-base.ensures.lawful in
    let name = same_writer _ (λ s. s.recording.now) (λ s. s.calls.now) (λ s. s.failed) (λ s. g.W.Write.contents s.out.now) (λ s. s.out.ghost_name) (λ s last call u x. x) _ c.whole_run-base.new.caller _ t stops in
    let held = written _ (λ s. s.recording.now) (λ s. s.calls.now) (λ s. s.failed) (λ s. g.W.Write.contents s.out.now) (λ s. s.out.ghost_name) (λ s last call u x. x) _ c.whole_run-base.new.caller _ t more stops c.in-None.is in
    let Q : Image → Type 0 = λ b. Law (subject_of g.F.FileSystem.LEAST (g.F.FileSystem.outcome c.args.fs) (g.S.ImageStore.sectors c.args.base)) (then (history_after begun c.whole_run-base.ensures.lawful.0) (reported (report_seen c.whole_run-base.result.1))) b in (
      t,
      report_seen c.whole_run-base.result.1,
      followed _ (λ s. s.recording.now) (λ s. s.calls.now) (λ s. s.failed) (λ s. g.W.Write.contents s.out.now) (λ s. s.out.ghost_name) (λ s last call u x. x) _ c.whole_run-base.new.caller _ t true room stops (λ e bad. false≢true (sym (ap is_some c.in-None.is) ∙ bad)),
      search rules,
      subst Q (ap g.S.ImageStore.sectors c.whole_run-base.ensures.store) law,
    )
