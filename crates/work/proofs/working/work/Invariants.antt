use Rattle.std.proofs.Common.{◌≡◌}
use Rattle.law.specs.Subject.{Subject}
use Rattle.law.specs.History.{History}
use Rattle.run.specs.Seen.{Kept, Led}
use Rattle.work.specs.Talks.{Talk, Spoken, calls, last_of, history_after}
use Rattle.work.proofs.working.work.Given as goal

-- so far the caller has said and heard a talk, by which the history goes on
abbrev pub invariant-loop : goal.invariant-loop
invariant-loop g l =
    Kept l.fn.run l.run
    × ((s : Subject) (h : History) → Led s h l.fn.run → (t : Talk) × Led s (history_after h t) l.run × Spoken g.C.Caller.says l.fn.caller t l.caller × (l.last ≡ last_of t) × (calls t ≡ l.counter))
