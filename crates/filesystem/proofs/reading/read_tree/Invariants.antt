-- The nodes laid so far are those of the words, and all of them stand.
use Rattle.std.proofs.Common.{◌≡◌, ℕ, ◌<◌, true, length, get_or}
use Rattle.tree.specs.Lists.{listed}
use Rattle.tree.specs.declared.node.Node.TheVariants.{Absent}
use Rattle.filesystem.specs.Trees.{node_at, node_stands}
use Rattle.filesystem.proofs.reading.read_tree.Given as goal

abbrev pub invariant-loop-k : goal.invariant-loop-k
invariant-loop-k g l =
    (length (listed l.builder.nodes) ≡ l.k)
    × ((j : ℕ) → j < l.k → get_or (listed l.builder.nodes) j Absent ≡ node_at (g.S.ImageStore.sectors l.image) j)
    × ((j : ℕ) → j < l.k → node_stands l.lowest (g.S.ImageStore.sectors l.image) j ≡ true)
