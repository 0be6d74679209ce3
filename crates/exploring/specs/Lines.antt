-- The lines of the output for programs.
use Rattle.std.specs.Prelude.{ℕ, ◌/◌, ◌%◌, false, List, [], ◌∷◌, ◌++◌, flat_map, codes, decimal, Some, None, Ok, Err, Option, option_map}
use Rattle.std.specs.Io.KnownBytes.{Appends}
use Rattle.std.specs.Fmt.{digit_glyph}
use Rattle.law.specs.History.{Report}
use Rattle.judging.specs.Codes as judging
use Rattle.progress.specs.Reports.{report_seen}
use Rattle.run.specs.declared.call.Answer.{Answer}
use Rattle.run.specs.declared.call.Answer.TheVariants.{Loaded, Next, Found, Forgone, Shown, Reported}
use Rattle.run.specs.Refusals.{code_of}
use Rattle.work.specs.Talks.{Reply}

-- a line's last number, ended by a newline (10)
abbrev pub ended : ℕ → List ℕ
ended n = decimal n ++ 10 ∷ []

-- a number, one space (32), and then `rest`
abbrev pub before : ℕ → List ℕ → List ℕ
before n rest = decimal n ++ 32 ∷ rest

-- the line of a judged state: its point and rank, its outcome and node
abbrev pub state_line : (point rank : ℕ) → (found : ℕ × ℕ) → List ℕ
state_line point rank found = before point (before rank (before found.0 (ended found.1)))

abbrev pub report_line : Report → List ℕ
report_line r = codes "report " ++ before r.verdict (before r.judged (before r.unsafe (before r.forgone (before r.passed (before r.first.0 (ended r.first.1))))))

-- the line of a refusal by number and place
abbrev pub refusal_line : ℕ × ℕ → List ℕ
refusal_line code = codes "declined " ++ before code.0 (ended code.1)

-- a byte in two hexadecimal digits
abbrev pub byte_text : ℕ → List ℕ
byte_text b = digit_glyph false (b / 16) ∷ digit_glyph false (b % 16) ∷ []

-- the line of the answer to a call that was accepted
abbrev pub accepted_line : Answer → List ℕ
accepted_line Loaded = codes "ok" ++ 10 ∷ []
accepted_line (Next None) = codes "ok end" ++ 10 ∷ []
accepted_line (Next (Some state)) = codes "ok " ++ before state.0 (ended state.1)
accepted_line (Found judgement) = let code = judging.code_of judgement in codes "ok " ++ before code.0 (ended code.1)
accepted_line Forgone = codes "ok" ++ 10 ∷ []
accepted_line (Shown content) = codes "ok " ++ (flat_map byte_text content ++ 10 ∷ [])
accepted_line (Reported report) = report_line (report_seen report)

-- the line of the answer to a call; want of memory has none
abbrev pub answer_line : Reply → Option (List ℕ)
answer_line (Ok accepted) = Some (accepted_line accepted)
answer_line (Err refusal) = option_map refusal_line (code_of refusal)

-- What a writer holds has grown by these lines; where an answer has no line, nothing is written.
abbrev pub Written : (old new : Option (List ℕ)) → Option (List ℕ) → Type 0
Written old new None = ⊥
Written old new (Some lines) = Appends old new lines
