-- The standing state of a run.
use Rattle.std.specs.Prelude.{◌≡◌, ℕ, ◌<◌, ◌≤◌, length, slice_index_or}
use Rattle.image.specs.Sectors.{Image}
use Rattle.tree.specs.declared.node.Node.TheVariants.{Absent}
use Rattle.crash.specs.States.{states}
use Rattle.crash.specs.Nodes.{node_values}
use Rattle.trace.specs.Meaning.{recording_of, marks_of}
use Rattle.standing.specs.Standing.{Stands}
use Rattle.judging.specs.Tables.{values_in}
use Rattle.run.specs.declared.space.Space.{Space}

-- The state of a point and a rank stands, over a base: the image is that state's, the tables have what the point's sectors
-- and nodes may have, and the point has so many states.
pub record At (base : Image) (space : Space) (point rank many : ℕ) (image : Image) : Type 0 where
  pub stands : Stands (recording_of base space.trace) point rank space.choice image
  pub values : (n : ℕ) → n < 16 → values_in space.values n ≡ node_values (slice_index_or space.tree.nodes n Absent) (marks_of space.trace) n point
  pub count : many ≡ length (states (recording_of base space.trace) point)

-- the first state of a point stands, and the point is within the limits
pub record Laid (base : Image) (space : Space) (point many : ℕ) (image : Image) : Type 0 where
  pub at : At base space point 0 many image
  pub some : 0 < many
  pub few : many ≤ 1048576
