use Rattle.points.proofs.Turning.{Turning}
use Rattle.points.proofs.places.advance.Given as goal

-- the places from i on had no room
abbrev pub invariant-loop-i : goal.invariant-loop-i
invariant-loop-i l = Turning l.counts l.initial.places l.i l.places
