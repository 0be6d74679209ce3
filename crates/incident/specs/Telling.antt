-- How the story is told: which call follows which answer.
use Rattle.std.specs.Prelude.{◌≡◌, ◌⊎◌, List, ℕ, Some, None, Ok, Err, Option, option_map}
use Rattle.law.specs.History as H
use Rattle.run.specs.declared.call.Call.{Call}
use Rattle.run.specs.declared.call.Answer.{Answer}
use Rattle.run.specs.declared.call.Answer.TheVariants.{Loaded, Next, Found, Forgone, Shown, Reported}
use Rattle.run.specs.Events.{call_seen}
use Rattle.work.specs.Talks.{Reply}

-- The recording is loaded; each state is given, its header (sector 2) shown, and it is judged; and so on to the end.
abbrev pub follows : Answer → Option H.Call
follows Loaded = Some H.advance
follows (Next (Some state)) = Some (H.look 2 512)
follows (Next None) = None
follows (Shown content) = Some H.judge
follows (Found judgement) = Some H.advance
follows Forgone = None
follows (Reported report) = None

-- that call, or none, where it could not be told or where the run declined
abbrev pub Chosen : List ℕ → Option Reply → Option Call → Type 0
Chosen bytes None call = option_map call_seen call ≡ Some (H.load bytes)
Chosen bytes (Some (Ok answer)) call = (option_map call_seen call ≡ follows answer) ⊎ (call ≡ None)
Chosen bytes (Some (Err refusal)) call = call ≡ None
