-- A point of a recording that was taken is past no limit.
use Rattle.run.proofs.Limits.{counted_ok, entry_ok, valued_ok}
use Rattle.run.proofs.space.lay_point.Goals as goal

pub unwrap-states-requires : goal.unwrap-states-requires
unwrap-states-requires g c = counted_ok (g.S.ImageStore.sectors c.args.state.now.below) c.args.space.now.trace c.requires.fit c.args.point c.requires.point c.point_states.result c.point_states.ensures

pub unwrap-space-requires : goal.unwrap-space-requires
unwrap-space-requires g c = entry_ok (g.S.ImageStore.sectors c.args.state.now.below) c.args.space.now.trace c.requires.fit c.args.point c.requires.point c.at.result c.at.ensures

pub unwrap-space-requires-2 : goal.unwrap-space-requires-2
unwrap-space-requires-2 g c = valued_ok (g.S.ImageStore.sectors c.args.state.now.below) c.args.space.now.trace c.requires.fit c.args.point c.requires.point c.args.space.now.tree.nodes c.at-2.result c.at-2.ensures
