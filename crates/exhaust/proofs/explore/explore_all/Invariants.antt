use Rattle.std.proofs.Common.{◌≡◌}
use Rattle.law.specs.Subject.{Subject, Recording, takes}
use Rattle.law.specs.History.{History}
use Rattle.run.specs.Seen.{Kept, Led, subject, view}
use Rattle.exhaust.specs.Searched.{searching}
use Rattle.exhaust.specs.Told.{Telling, Heard}
use Rattle.exhaust.proofs.Onward.{Going}
use Rattle.exhaust.proofs.Telling.{Sofar}
use Rattle.exhaust.proofs.explore.explore_all.Given as goal

-- the recording is taken, so many states are judged and none is forgone, the watcher was told of these, and by these calls history led here
abbrev pub invariant-loop : goal.invariant-loop
invariant-loop g l =
    Kept l.fn.run l.run
    × ((R : Recording) × ((subject l.fn.run).loads l.recording ≡ takes R) × Going R l.counter (view l.run) × ((t : Telling) × Heard g.W.Watch.hears l.fn.watch t l.watch × Sofar (subject l.fn.run) R (view l.run) t × ((s : Subject) (h : History) → Led s h l.fn.run → Led s (searching h l.recording t) l.run)))
