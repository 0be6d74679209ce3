-- Each sector of the image has its candidates.
use Rattle.std.proofs.Common.{arith}
use Rattle.trace.specs.Meaning.{recording_of, marks_of}
use Rattle.states.proofs.Limits.{found_ok}
use Rattle.states.proofs.taken.Taken.report_sectors.Goals as goal

pub unwrap-numbers-requires : goal.unwrap-numbers-requires
unwrap-numbers-requires g c =
    let t = c.args.self.now.trace in
    let base = g.S.ImageStore.sectors c.args.self.now.base in
    found_ok (recording_of base t) (marks_of t) c.args.self.now.fit.points c.args.point c.requires c.loop-sector.sector-counter (omega arith) _ c.candidates_of.ensures
