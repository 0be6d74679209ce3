-- The answers of the typed calls as events.
use Rattle.std.specs.Prelude.{ℕ, List, Ok, Err, Option, Result}
use Rattle.law.specs.History as H
use Rattle.judging.specs.declared.judgement.Judgement.{Judgement}
use Rattle.run.specs.declared.refusal.Refusal.{Refusal}
use Rattle.run.specs.Refusals.{code_of}
use Rattle.run.specs.Events.{declining, giving_of, found_of}

abbrev pub advancing : Result (Option (ℕ × ℕ)) Refusal → H.Event
advancing (Ok next) = giving_of next
advancing (Err f) = declining H.advance (code_of f)

abbrev pub judging : Result Judgement Refusal → H.Event
judging (Ok j) = found_of j
judging (Err f) = declining H.judge (code_of f)

abbrev pub forgoing : Result (Unit {0}) Refusal → H.Event
forgoing (Ok u) = H.forwent
forgoing (Err f) = declining H.forgo (code_of f)

-- a look at a sector with a buffer of so many bytes, and what the buffer then has
abbrev pub looking : (sector size : ℕ) → List ℕ → Result (Unit {0}) Refusal → H.Event
looking sector size content (Ok u) = H.showed sector size content
looking sector size content (Err f) = declining (H.look sector size) (code_of f)

-- a load with its answer
abbrev pub loading : List ℕ → Result (Unit {0}) Refusal → H.Event
loading bytes (Ok u) = H.loaded bytes
loading bytes (Err f) = declining (H.load bytes) (code_of f)
