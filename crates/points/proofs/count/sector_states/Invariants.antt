use Rattle.std.proofs.Common.{◌≡◌, ℕ, ◌<◌}
use Rattle.crash.specs.Ranks.{product}
use Rattle.trace.specs.Meaning.{recording_of}
use Rattle.candidates.specs.Gathering.{NoneAbove, numbers_at}
use Rattle.points.specs.Counting.{widths, capped}
use Rattle.points.proofs.count.sector_states.Given as goal

-- the product over the sectors so far, which have at most 8 candidates
abbrev pub invariant-loop-s : goal.invariant-loop-s
invariant-loop-s g l =
    (l.states ≡ capped (product (widths (recording_of (g.S.ImageStore.sectors l.base) l.trace) l.point l.s)))
    × ((k : ℕ) → k < l.s → NoneAbove (numbers_at (recording_of (g.S.ImageStore.sectors l.base) l.trace) k) l.point)
