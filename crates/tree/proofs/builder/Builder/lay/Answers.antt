-- One allowed node more keeps the rules.
use Rattle.std.proofs.Common.{◌≡◌, true, length, rules}
use Rattle.tree.specs.Lists.{listed}
use Rattle.tree.specs.Rules.{allowed}
use Rattle.tree.proofs.Laid.{one_more}
use Rattle.tree.proofs.builder.Builder.lay.Goals as goal

pub invariant_of-self : goal.invariant_of-self
unfolding allowed
invariant_of-self c =
    let nodes = listed c.args.self.now.nodes in
    let ok : allowed nodes (length nodes) c.args.node ≡ true = search rules in
    record { sound = rw c.push.ensures (one_more nodes c.args.node ok c.args.self.now.sound) }
