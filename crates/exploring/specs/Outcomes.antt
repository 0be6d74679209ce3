-- What comes of an exploration, and its line.
use Rattle.std.specs.Prelude.{◌≡◌, ℕ, List, [], Some, None, Ok, Err, Option, Result, option_map}
use Rattle.console.specs.declared.failed.Failed.{Failed}
use Rattle.law.specs.Subject.{Subject, declines}
use Rattle.law.specs.Rules.{Late}
use Rattle.progress.specs.declared.report.Report.{Report}
use Rattle.progress.specs.Reports.{report_seen}
use Rattle.run.specs.Refusals.{code_of}
use Rattle.exhaust.specs.declared.watch.Stopped.{Stopped}
use Rattle.exhaust.specs.declared.watch.Stopped.TheVariants.{Declined, Watcher}
use Rattle.exploring.specs.Lines.{refusal_line, report_line}

-- the recording in these bytes is declined by this number and place; or memory is wanting, where 3 to 6 do not decline it
abbrev pub DeclinedAs : Subject → List ℕ → Option (ℕ × ℕ) → Type 0
DeclinedAs s bytes (Some c) = s.loads bytes ≡ declines c.0 c.1
DeclinedAs s bytes None = Late (s.loads bytes)

-- the line of the report, or of the refusal by number and place: want of memory has none; nothing is written of a search that
-- was stopped
abbrev pub outcome_line : Result Report (Stopped Failed) → Option (List ℕ)
outcome_line (Ok report) = Some (report_line (report_seen report))
outcome_line (Err (Declined refusal)) = option_map refusal_line (code_of refusal)
outcome_line (Err (Watcher why)) = Some []
