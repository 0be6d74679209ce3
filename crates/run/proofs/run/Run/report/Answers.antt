-- A report is one more step, and every history that steps can make is lawful.
use Rattle.std.proofs.Common.{refl}
use Rattle.law.specs.History.{then, reported}
use Rattle.law.proofs.Lawful.{lawful}
use Rattle.progress.specs.Reports.{report_seen}
use Rattle.run.specs.Seen.{base_of, view}
use Rattle.run.proofs.run.Run.report.Goals as goal

pub returns-clause-figures : goal.returns-clause-figures
returns-clause-figures g c = let run = c.args.self.now in c.report.ensures (base_of run) (view run).recording

pub returns-clause-law : goal.returns-clause-law
returns-clause-law g c =
    let run = c.args.self.now in
    λ s h L. lawful s (then h (reported (report_seen c.report.result))) (view run) (view run, L.1, (c.report.ensures (base_of run) (view run).recording, refl))

pub returns-clause-went : goal.returns-clause-went
returns-clause-went g c =
    let run = c.args.self.now in
    λ s h L. (L.0, (view run, L.1, (c.report.ensures (base_of run) (view run).recording, refl)))
