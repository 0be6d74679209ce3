-- What each accepted call makes of a run's progress.
use Rattle.std.specs.Prelude.{ℕ, ◌+◌, ◌-◌, ◌^◌, min, Bool, cond, ◌&&◌, ◌==◌, Some, None}
use Rattle.progress.specs.declared.condition.Condition.TheVariants.{Empty, Ready, Waiting, Judged, Left, Ended}
use Rattle.progress.specs.declared.condition.Progress.{Progress}

-- a count goes up, and stays where it is full
abbrev pub plus : ℕ → ℕ → ℕ
plus m n = min (m + n) (2 ^ 64 - 1)

abbrev pub begun : Progress
begun = record { condition = Empty; last = 0; point = 0; rank = 0; states = 0; judged = 0; unsafe_judged = 0; forgone = 0; passed = 0; first = None }

abbrev pub loaded : (last : ℕ) → Progress → Progress
loaded last p = record { condition = Ready; last = last; point = p.point; rank = p.rank; states = p.states; judged = p.judged; unsafe_judged = p.unsafe_judged; forgone = p.forgone; passed = p.passed; first = p.first }

abbrev pub entered : (point states : ℕ) → Progress → Progress
entered point states p = record { condition = Waiting; last = p.last; point = point; rank = 0; states = states; judged = p.judged; unsafe_judged = p.unsafe_judged; forgone = p.forgone; passed = plus p.passed 1; first = p.first }

abbrev pub stepped : Progress → Progress
stepped p = record { condition = Waiting; last = p.last; point = p.point; rank = plus p.rank 1; states = p.states; judged = p.judged; unsafe_judged = p.unsafe_judged; forgone = p.forgone; passed = plus p.passed 1; first = p.first }

abbrev pub ended : Progress → Progress
ended p = record { condition = Ended; last = p.last; point = p.point; rank = p.rank; states = p.states; judged = p.judged; unsafe_judged = p.unsafe_judged; forgone = p.forgone; passed = p.passed; first = p.first }

-- the standing state is judged, and unsafe or not; the first unsafe one is noted
abbrev pub judged_as : Bool → Progress → Progress
judged_as bad p = record {
  condition = Judged;
  last = p.last;
  point = p.point;
  rank = p.rank;
  states = p.states;
  judged = plus p.judged 1;
  unsafe_judged = cond bad (plus p.unsafe_judged 1) p.unsafe_judged;
  forgone = p.forgone;
  passed = p.passed;
  first = cond (bad && p.unsafe_judged == 0) (Some (p.point, p.rank)) p.first;
}

-- how many states the point has after the standing one
abbrev pub rest_of : Progress → ℕ
rest_of p = p.states - plus p.rank 1

abbrev pub left : (waiting : ℕ) → Progress → Progress
left waiting p = record { condition = Left; last = p.last; point = p.point; rank = p.rank; states = p.states; judged = p.judged; unsafe_judged = p.unsafe_judged; forgone = plus p.forgone (plus (rest_of p) waiting); passed = plus p.passed (rest_of p); first = p.first }
