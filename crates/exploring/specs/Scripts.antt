-- How a script is followed.
use Rattle.std.specs.Prelude.{◌≡◌, ℕ, ◌⊎◌, Bool, true, List, [], ◌∷◌, ◌++◌, map, Some, None, Option, IsSome}
use Rattle.std.specs.Fmt.{option_append}
use Rattle.law.specs.History as H
use Rattle.console.specs.declared.failed.Failed.{Failed}
use Rattle.script.specs.declared.spoken.Spoken.{Spoken}
use Rattle.script.specs.declared.spoken.Spoken.TheVariants.{Load, Advance, Judge, Forgo, Look, Report}
use Rattle.run.specs.declared.call.Call.{Call}
use Rattle.run.specs.Events.{call_seen}
use Rattle.work.specs.Talks.{Talk, Reply, silent, said}
use Rattle.exploring.specs.Lines.{answer_line}

-- the call that is meant, where load loads the recording in these bytes
abbrev pub meant : List ℕ → Spoken → H.Call
meant bytes Load = H.load bytes
meant bytes Advance = H.advance
meant bytes Judge = H.judge
meant bytes Forgo = H.forgo
meant bytes (Look sector size) = H.look sector size
meant bytes Report = H.report

-- the first of the calls before is chosen, and the others are left; or none is left, or an answer could not be written
abbrev pub Chosen : (bytes : List ℕ) → (before after : List Spoken) → Option Failed → Option Call → Type 0
Chosen bytes before after failed (Some call) = (spoken : Spoken) × (before ≡ spoken ∷ after) × (call_seen call ≡ meant bytes spoken)
Chosen bytes before after failed None = (before ≡ []) ⊎ IsSome failed

-- the calls that were made, in order
abbrev pub made : Talk → List H.Call
made silent = []
made (said t call reply) = made t ++ call_seen call ∷ []

-- THE SCRIPT IS FOLLOWED: the calls that were made are its first ones, in order; and they are all, if that went well
abbrev pub Followed : (bytes : List ℕ) → List Spoken → (well : Bool) → Talk → Type 0
Followed bytes script well t = (rest : List Spoken) × (map (meant bytes) script ≡ made t ++ map (meant bytes) rest) × (well ≡ true → rest ≡ [])

-- the lines of the answers, in order
abbrev pub lines_of : Talk → Option (List ℕ)
lines_of silent = Some []
lines_of (said t call reply) = option_append (lines_of t) (answer_line reply)

-- the line of the answer that is heard; before the first call there is none
abbrev pub heard_line : Option Reply → Option (List ℕ)
heard_line None = Some []
heard_line (Some reply) = answer_line reply
