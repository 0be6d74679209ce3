-- 16 allowed nodes have the facts of a tree.
use Rattle.std.proofs.Common.{◌≡◌, ℕ, ◌<◌, true, length, get_or, ap, arith, rules}
use Rattle.tree.specs.Lists.{listed}
use Rattle.tree.specs.Rules.{allowed}
use Rattle.tree.specs.Facts.{root, lower, directories, lengths}
use Rattle.tree.specs.declared.node.Node.TheVariants.{Absent}
use Rattle.tree.proofs.builder.Builder.finish.Goals as goal

pub invariant_of-result : goal.invariant_of-result
invariant_of-result c =
    let nodes = c.in_ok-nodes.nodes in
    let size : length nodes ≡ 16 = search rules in
    let same : listed c.args.self.now.nodes ≡ nodes = search rules in
    let ok : (k : ℕ) → k < 16 → allowed nodes k (get_or nodes k Absent) ≡ true = rw (← same) (λ k h. c.args.self.now.sound k (omega (arith, ap length same))) in
    record { size = size; root = root nodes size ok; lower = lower nodes size ok; directories = directories nodes size ok; lengths = lengths nodes size ok }
