use Rattle.trace.specs.Meaning.{recording_of, marks_of}
use Rattle.points.proofs.Limiting.{counted_many, counted_right}
use Rattle.points.proofs.count.point_states.Goals as goal

pub returns-then-states-gt-MOST_STATES : goal.returns-then-states-gt-MOST_STATES
returns-then-states-gt-MOST_STATES g c =
    let t = c.args.trace.now in
    counted_many (recording_of (g.S.ImageStore.sectors c.args.base.now) t) (marks_of t) c.args.point c.in_ok-states.states c.in_ok-states.ensures c.in_ok-check_nodes.ensures c.if-states-gt-MOST_STATES.true

pub returns : goal.returns
returns g c =
    let t = c.args.trace.now in
    counted_right (recording_of (g.S.ImageStore.sectors c.args.base.now) t) (marks_of t) c.args.point c.in_ok-states.states c.in_ok-states.ensures c.in_ok-check_nodes.ensures c.if-states-gt-MOST_STATES.false
