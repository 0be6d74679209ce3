-- A report, and a look at a state that stands.
use Rattle.std.proofs.Common.{◌≡◌, sym, refl, subst}
use Rattle.image.specs.Shown.{shown}
use Rattle.image.specs.Layers.{length_overlaid}
use Rattle.law.specs.Steps.{Step}
use Rattle.progress.specs.declared.condition.Condition.{Condition}
use Rattle.run.specs.declared.call.Call.{Call}
use Rattle.run.specs.Events.{call_seen, event_of}
use Rattle.run.specs.Moves.{WaitingIn}
use Rattle.run.specs.Seen.{base_of, subject, view}
use Rattle.run.proofs.Looking.{looks}
use Rattle.run.proofs.run.Run.turn.Goals as goal

pub returns-in_default-Report-clause-goes : goal.returns-in_default-Report-clause-goes
returns-in_default-Report-clause-goes g c = let run = c.args.self.now in (c.report.ensures (base_of run) (view run).recording, refl)

pub returns-in-Waiting-Look-clause-goes : goal.returns-in-Waiting-Look-clause-goes
returns-in-Waiting-Look-clause-goes g c =
    let run = c.args.self.now in
    let sectors = g.S.ImageStore.sectors in
    let at = c.in-Waiting-Look in
    let r = c.show.result in
    let Q : Call → Type 0 = λ x. Step (subject run) (view run) (event_of (call_seen x) r) (view run) in
    let W : Condition → Type 0 = λ x. WaitingIn x 1 in
    subst Q (sym at.is-1) (looks g.F.FileSystem.LEAST (g.F.FileSystem.outcome run.fs) (base_of run) (shown sectors run.layers.below) run.space run.progress run.valid 1 (subst W (sym at.is-0) refl) (length_overlaid run.layers.below.written run.layers.below.cells (base_of run)) at.sector at.size r c.show.ensures)

pub returns-in-Judged-Look-clause-goes : goal.returns-in-Judged-Look-clause-goes
returns-in-Judged-Look-clause-goes g c =
    let run = c.args.self.now in
    let sectors = g.S.ImageStore.sectors in
    let at = c.in-Judged-Look in
    let r = c.show-in-Judged-Look.result in
    let Q : Call → Type 0 = λ x. Step (subject run) (view run) (event_of (call_seen x) r) (view run) in
    let W : Condition → Type 0 = λ x. WaitingIn x 0 in
    subst Q (sym at.is-1) (looks g.F.FileSystem.LEAST (g.F.FileSystem.outcome run.fs) (base_of run) (shown sectors run.layers.below) run.space run.progress run.valid 0 (subst W (sym at.is-0) refl) (length_overlaid run.layers.below.written run.layers.below.cells (base_of run)) at.sector at.size r c.show-in-Judged-Look.ensures)
