-- Why a search came to no end.
use Rattle.run.specs.declared.refusal.Refusal.{Refusal}
use Rattle.exhaust.specs.declared.watch.Stopped.{Stopped}
use Rattle.exhaust.specs.declared.watch.Stopped.TheVariants.{Declined, Watcher}

-- the watcher stopped it, and of what it answered so much is so
abbrev pub ByWatcher : {E : Type 0} → (E → Type 0) → Stopped E → Type 0
ByWatcher P (Declined refusal) = Unit {0}
ByWatcher P (Watcher stop) = P stop

-- the run declined it, and of its refusal so much is so
abbrev pub ByRun : {E : Type 0} → (Refusal → Type 0) → Stopped E → Type 0
ByRun P (Declined refusal) = P refusal
ByRun P (Watcher stop) = Unit {0}
