use Rattle.std.proofs.Common.{sym, ap}
use Rattle.image.specs.Layers.{length_overlaid}
use Rattle.trace.specs.Meaning.{effects_of, content_at}
use Rattle.standing.proofs.Putting.{put_one}
use Rattle.standing.proofs.sectors.put.Goals as goal

pub returns-then-number-eq0-clause-image : goal.returns-then-number-eq0-clause-image
returns-then-number-eq0-clause-image g c =
    let state = c.args.state.now in
    let base = g.S.ImageStore.sectors state.below in
    let x = c.fetch-base.result in
    put_one base _ _ c.args.trace.now c.args.sector c.args.number x x c.write-answer.result (length_overlaid state.written state.cells base) c.fetch-base.ensures.inside
    (ap (content_at x (effects_of c.args.trace.now) c.args.sector) (sym c.if-number-eq0.true))
    c.write-answer.ensures.answer c.write-answer.ensures.after
