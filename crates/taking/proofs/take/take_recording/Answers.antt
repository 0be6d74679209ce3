-- What was read and what was checked give what is answered.
use Rattle.std.proofs.lemmas.Result.{err_from_is_err_and}
use Rattle.taking.proofs.Joining.{reading_declined, points_declined, points_taken}
use Rattle.taking.proofs.take.take_recording.Goals as goal

pub returns-in_err-trace : goal.returns-in_err-trace
returns-in_err-trace g c =
    let p = err_from_is_err_and c.from_residual.result c.from_residual.ensures.1 in
    rw (p.1, p.2) (reading_declined c.args.bytes.now (g.S.ImageStore.sectors c.args.base.now) _ c.in_err-trace.ensures)

pub returns-in_err-check_points : goal.returns-in_err-check_points
returns-in_err-check_points g c =
    let p = err_from_is_err_and c.from_residual-in_err-check_points.result c.from_residual-in_err-check_points.ensures.1 in
    rw (p.1, p.2) (points_declined c.args.bytes.now (g.S.ImageStore.sectors c.args.base.now) c.in_ok-trace.trace c.in_ok-trace.ensures _ c.in_err-check_points.ensures)

pub returns : goal.returns
returns g c =
    points_taken c.args.bytes.now (g.S.ImageStore.sectors c.args.base.now) c.in_ok-trace.trace c.in_ok-trace.ensures tt c.in_ok-check_points.ensures
