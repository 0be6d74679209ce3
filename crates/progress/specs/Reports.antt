-- A report as the law sees it, and a verdict in a word.
use Rattle.std.specs.Prelude.{ℕ, List, codes}
use Rattle.law.specs.History as H
use Rattle.progress.specs.declared.report.Verdict.{Verdict}
use Rattle.progress.specs.declared.report.Verdict.TheVariants.{Empty, Unfinished, Safe, Unsafe, Open}
use Rattle.progress.specs.declared.report.Report.{Report}

-- the number of a verdict
abbrev pub code_of : Verdict → ℕ
code_of Empty = 0
code_of Unfinished = 1
code_of Safe = 2
code_of Unsafe = 3
code_of Open = 4

-- a verdict in a word
abbrev pub word_of : Verdict → List ℕ
word_of Empty = codes "empty"
word_of Unfinished = codes "unfinished"
word_of Safe = codes "safe"
word_of Unsafe = codes "unsafe"
word_of Open = codes "open"

abbrev pub report_seen : Report → H.Report
report_seen r = record { verdict = code_of r.verdict; judged = r.judged; unsafe = r.unsafe_judged; forgone = r.forgone; passed = r.passed; first = (r.point, r.rank) }
