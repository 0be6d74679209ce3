-- Here, and not named at the function: tried, and the proof did not close.
use Rattle.crash.proofs.Noding.{node_values_lem, node_members}
use Rattle.crash.proofs.nodes_are_the_rules.Goals as goal

pub returns : goal.returns
returns c = record { values = node_values_lem; members = node_members }
