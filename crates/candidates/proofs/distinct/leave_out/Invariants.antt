use Rattle.std.proofs.Common.{◌≡◌, take}
use Rattle.crash.specs.Lists.{firsts}
use Rattle.trace.specs.Meaning.{effects_of, content_at}
use Rattle.candidates.specs.Lists.{listed}
use Rattle.candidates.proofs.distinct.leave_out.Given as goal

-- what stays of the first i numbers
abbrev pub invariant-loop-i : goal.invariant-loop-i
invariant-loop-i l = listed l.stay ≡ firsts (content_at l.base (effects_of l.trace) l.sector) (take l.i l.all)
