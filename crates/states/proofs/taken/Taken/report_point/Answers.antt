-- A point within the limits has its states.
use Rattle.trace.specs.Meaning.{recording_of, marks_of}
use Rattle.states.proofs.Limits.{counted_ok}
use Rattle.states.proofs.taken.Taken.report_point.Goals as goal

pub unwrap-states-requires : goal.unwrap-states-requires
unwrap-states-requires g c =
    let t = c.args.self.now.trace in
    let base = g.S.ImageStore.sectors c.args.self.now.base in
    counted_ok (recording_of base t) (marks_of t) c.args.self.now.fit.points c.args.point c.requires _ c.point_states.ensures
