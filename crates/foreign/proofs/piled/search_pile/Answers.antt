-- A search of a pile is a search of the store.
use Rattle.std.proofs.Common.{IfOk, subst}
use Rattle.image.specs.Shown.{shown}
use Rattle.image.specs.Sectors.{Image}
use Rattle.law.specs.History.{begun}
use Rattle.meaning.specs.Subjects.{subject_of}
use Rattle.progress.specs.Reports.{report_seen}
use Rattle.exhaust.specs.Exhausted.{Exhausted}
use Rattle.foreign.proofs.piled.search_pile.Goals as goal

pub returns-clause-found : goal.returns-clause-found
returns-clause-found g c =
    let sectors = g.S.ImageStore.sectors in
    let least = g.F.FileSystem.LEAST in
    let outcome = g.F.FileSystem.outcome in
    let P : Image → Type 0 = λ base. IfOk c.explore_all-found.result (λ report. Exhausted (subject_of least (outcome c.args.fs) base) c.args.recording.now (report_seen report)) in
    subst P c.pile.ensures.same (c.explore_all-found.ensures.explored (subject_of least (outcome c.args.fs) (shown (shown (shown sectors)) c.pile.result)) begun c.begin-run.ensures.led)
