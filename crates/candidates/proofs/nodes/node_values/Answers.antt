use Rattle.std.proofs.Common.{◌≡◌, ◌+◌, sym, ◌∙◌, rules}
use Rattle.crash.specs.Nodes.{mark_at, node_turn, node_values}
use Rattle.trace.specs.Meaning.{marks_of}
use Rattle.candidates.specs.Turns.{turned}
use Rattle.candidates.proofs.Walking.{values_start, values_more}
use Rattle.candidates.proofs.nodes.node_values.Goals as goal

pub returns : goal.returns
returns c =
    let start = c.args.start in
    let marks = marks_of c.args.trace.now in
    let n = c.args.node in
    c.walk.ensures (node_values start marks n) (record {
      first = values_start start marks n;
      next = λ k t low post. let e : turned t (node_values start marks n k) ≡ node_turn (mark_at marks (k + 1)) n (node_values start marks n k) = search rules in values_more start marks n k ∙ sym e;
    })
