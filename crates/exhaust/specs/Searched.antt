-- By which calls a search goes on.
use Rattle.std.specs.Prelude.{◌≡◌, ℕ, List, Ok, Err, Result}
use Rattle.law.specs.Subject.{State}
use Rattle.law.specs.History.{History, then, loaded, gave, ended, found}
use Rattle.judging.specs.declared.judgement.Judgement.{Judgement}
use Rattle.judging.specs.Codes.{code_of}
use Rattle.progress.specs.declared.report.Report.{Report}
use Rattle.run.specs.Typed.{loading}
use Rattle.exhaust.specs.declared.watch.Stopped.{Stopped}
use Rattle.exhaust.specs.declared.watch.Stopped.TheVariants.{Declined, Watcher}
use Rattle.exhaust.specs.Told.{Telling, quiet, told, Heard}

-- a history, then the load of the recording in these bytes, and then each state of the telling given and judged
abbrev pub searching : History → List ℕ → Telling → History
searching h bytes quiet = then h (loaded bytes)
searching h bytes (told t x j) = then (then (searching h bytes t) (gave x)) (found (code_of j).0 (code_of j).1)

-- The search made these calls and no others: the load; each state of which the watcher heard, given and judged; and an advance
-- that found the end. Where the watcher stopped it, none came after the judgement upon which it stopped; where load declined, none
-- after the load, and the watcher heard nothing.
abbrev pub Searched : {W E : Type 0} → (W → State → Judgement → Result (Unit {0}) E → W → Type 0) → History → List ℕ → W → Result Report (Stopped E) → W → History → Type 0
Searched hears h bytes w (Ok report) w' k = (t : Telling) × Heard hears w t w' × (k ≡ then (searching h bytes t) ended)
Searched hears h bytes w (Err (Declined f)) w' k = (w' ≡ w) × (k ≡ then h (loading bytes (Err f)))
Searched {W} hears h bytes w (Err (Watcher stop)) w' k = (t : Telling) × (x : State) × (j : Judgement) × (m : W) × Heard hears w t m × hears m x j (Err stop) w' × (k ≡ searching h bytes (told t x j))
