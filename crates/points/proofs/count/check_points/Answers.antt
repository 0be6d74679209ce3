use Rattle.std.proofs.Common.{◌≤◌, length, rules, arith}
use Rattle.trace.specs.Meaning.{recording_of, marks_of, effects_of}
use Rattle.trace.proofs.Writing.{effects_length}
use Rattle.points.proofs.Limiting.{fine_more, checked_point}
use Rattle.points.proofs.count.check_points.Goals as goal

pub returns-in_err-point_states : goal.returns-in_err-point_states
returns-in_err-point_states g c =
    let inside : c.loop-point.point ≤ length (effects_of c.args.trace.now) = omega (arith, effects_length c.args.trace.now, c.len-point-end.ensures, c.loop-point-test.true) in
    search (rules, checked_point)

pub loop-point-preserved : goal.loop-point-preserved
loop-point-preserved g c =
    let t = c.args.trace.now in
    fine_more (recording_of (g.S.ImageStore.sectors c.args.base.now) t) (marks_of t) c.loop-point.point c.in_ok-point_states.field-0 c.loop-point.invariant c.in_ok-point_states.ensures

-- the last point
pub returns-in_ok-point_states : goal.returns-in_ok-point_states
returns-in_ok-point_states g c = λ p h.
    let t = c.args.trace.now in
    fine_more (recording_of (g.S.ImageStore.sectors c.args.base.now) t) (marks_of t) c.loop-point.point c.in_ok-point_states.field-0 c.loop-point.invariant c.in_ok-point_states.ensures p
    (omega (arith, effects_length t, c.len-point-end.ensures))

pub returns : goal.returns
returns g c = λ p h.
    c.loop-point.invariant p (omega (arith, effects_length c.args.trace.now, c.len-point-end.ensures, c.loop-point-test.false))
