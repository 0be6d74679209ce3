-- Calls and answers of the code as those of the law.
use Rattle.std.specs.Prelude.{ℕ, List, [], Some, None, Ok, Err, Option, Result}
use Rattle.law.specs.History as H
use Rattle.judging.specs.declared.judgement.Judgement.{Judgement}
use Rattle.judging.specs.Codes as J
use Rattle.progress.specs.Reports.{report_seen}
use Rattle.run.specs.declared.call.Call.{Call}
use Rattle.run.specs.declared.call.Call.TheVariants.{Load, Advance, Judge, Forgo, Look, Report}
use Rattle.run.specs.declared.call.Answer.{Answer}
use Rattle.run.specs.declared.call.Answer.TheVariants.{Loaded, Next, Found, Forgone, Shown, Reported}
use Rattle.run.specs.declared.refusal.Refusal.{Refusal}
use Rattle.run.specs.Refusals.{code_of}

-- the call that is made
abbrev pub call_seen : Call → H.Call
call_seen (Load bytes) = H.load bytes.now
call_seen Advance = H.advance
call_seen Judge = H.judge
call_seen Forgo = H.forgo
call_seen (Look sector size) = H.look sector size
call_seen Report = H.report

-- a call declined by number and place, or for want of memory
abbrev pub declining : H.Call → Option (ℕ × ℕ) → H.Event
declining call (Some c) = H.declined call c.0 c.1
declining (H.load bytes) None = H.starved bytes
declining H.advance None = H.declined H.advance 0 0
declining H.judge None = H.declined H.judge 0 0
declining H.forgo None = H.declined H.forgo 0 0
declining (H.look sector size) None = H.declined (H.look sector size) 0 0
declining H.report None = H.declined H.report 0 0

abbrev bytes_of : H.Call → List ℕ
bytes_of (H.load bytes) = bytes
bytes_of H.advance = []
bytes_of H.judge = []
bytes_of H.forgo = []
bytes_of (H.look sector size) = []
bytes_of H.report = []

abbrev sector_of : H.Call → ℕ
sector_of (H.load bytes) = 0
sector_of H.advance = 0
sector_of H.judge = 0
sector_of H.forgo = 0
sector_of (H.look sector size) = sector
sector_of H.report = 0

abbrev size_of : H.Call → ℕ
size_of (H.load bytes) = 0
size_of H.advance = 0
size_of H.judge = 0
size_of H.forgo = 0
size_of (H.look sector size) = size
size_of H.report = 0

-- what an accepted advance answers
abbrev pub giving_of : Option (ℕ × ℕ) → H.Event
giving_of (Some x) = H.gave x
giving_of None = H.ended

-- what an accepted judge answers
abbrev pub found_of : Judgement → H.Event
found_of j = H.found (J.code_of j).0 (J.code_of j).1

-- an accepted call with its answer
abbrev pub answer_of : H.Call → Answer → H.Event
answer_of call Loaded = H.loaded (bytes_of call)
answer_of call (Next next) = giving_of next
answer_of call (Found j) = found_of j
answer_of call Forgone = H.forwent
answer_of call (Shown content) = H.showed (sector_of call) (size_of call) content
answer_of call (Reported r) = H.reported (report_seen r)

-- the call with its answer
abbrev pub event_of : H.Call → Result Answer Refusal → H.Event
event_of call (Ok answer) = answer_of call answer
event_of call (Err f) = declining call (code_of f)
