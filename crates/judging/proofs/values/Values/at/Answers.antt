use Rattle.std.proofs.Common.{◌<◌, arith}
use Rattle.std.proofs.lemmas.Result.{err_from_is_err_and}
use Rattle.trace.specs.Meaning.{marks_of}
use Rattle.judging.proofs.Filling.{filled_more, filling_declined}
use Rattle.judging.proofs.values.Values.at.Goals as goal

pub loop-n-preserved : goal.loop-n-preserved
loop-n-preserved c =
    let h = c.in_ok-few.ensures in
    let size = c.loop-n.invariant.size in
    let inside : c.loop-n.n < 16 = omega arith in
    filled_more c.args.tree.now.nodes (marks_of c.args.trace.now) c.args.point c.loop-n.n c.node.result c.node.ensures c.loop-n.few-items c.loop-n.invariant inside c.in_ok-few.field-0 h.0 h.1

pub returns-in_err-few : goal.returns-in_err-few
returns-in_err-few c =
    let p = err_from_is_err_and c.from_residual.result c.from_residual.ensures.1 in
    let size = c.loop-n.invariant.size in
    let inside : c.loop-n.n < 16 = omega arith in
    rw (p.1, p.2) (filling_declined c.args.tree.now.nodes (marks_of c.args.trace.now) c.args.point c.loop-n.n c.node.result c.node.ensures c.loop-n.few-items c.loop-n.invariant inside _ c.in_err-few.ensures)
