use Rattle.std.proofs.Common.{rules}
use Rattle.trace.specs.Meaning.{effects_of, content_at}
use Rattle.candidates.proofs.Leaving.{firsts_stays, firsts_leaves, leave_room}
use Rattle.candidates.proofs.distinct.leave_out.Goals as goal
use Rattle.candidates.proofs.distinct.leave_out.Goals.{then-not-is_repeated, else-not-is_repeated}

pub push-requires : goal.push-requires
push-requires c = (search rules, leave_room (content_at c.args.base.now (effects_of c.args.trace.now) c.args.sector) _ _ _ c.loop-i-test.true c.values-all.ensures.few c.loop-i.invariant)

pub loop-i-preserved : goal.loop-i-preserved
loop-i-preserved c = elim c.if-not-is_repeated.branch [ then-not-is_repeated w ↦ search (rules, firsts_stays) | else-not-is_repeated w ↦ search (rules, firsts_leaves) ]
