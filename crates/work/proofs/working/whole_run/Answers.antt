-- The run that was worked is over the store and the file system that came.
use Rattle.std.proofs.Common.{sym, ap, subst}
use Rattle.image.specs.Sectors.{Image}
use Rattle.law.specs.History.{begun, then, reported}
use Rattle.law.specs.Law.{Law}
use Rattle.meaning.specs.Subjects.{subject_of}
use Rattle.progress.specs.Reports.{report_seen}
use Rattle.work.specs.Talks.{history_after}
use Rattle.work.proofs.working.whole_run.Goals as goal

pub returns-clause-lawful : goal.returns-clause-lawful
returns-clause-lawful g c =
    let s = subject_of g.F.FileSystem.LEAST (g.F.FileSystem.outcome c.args.fs) (g.S.ImageStore.sectors c.args.store) in
    let w = c.work.ensures.told s begun c.begin-run.ensures.led in
    let h = then (history_after begun w.0) (reported (report_seen c.report-report.result)) in
    let P : Image → Type 0 = λ b. Law s h b in
    (w.0, w.2, subst P (sym (ap g.S.ImageStore.sectors c.close.ensures)) (c.report-report.ensures.law s (history_after begun w.0) w.1))
