use Rattle.std.proofs.Common.{◌≡◌, length}
use Rattle.history.specs.Held.{held}
use Rattle.candidates.specs.Turns.{Follows}
use Rattle.candidates.proofs.Walking.{HoldsUpTo}
use Rattle.candidates.proofs.walk.walk.Given as goal

-- the history holds the list of point k
abbrev pub invariant-loop-k : goal.invariant-loop-k
invariant-loop-k g l = (length l.history.cells.now ≡ 8) × ((at : _) → Follows (goal.F-post g l.turn) l.start l.point at → HoldsUpTo at l.k-counter (held l.history))
