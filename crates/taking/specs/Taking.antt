-- What the taking of a recording answers.
use Rattle.std.specs.Prelude.{◌≡◌, ℕ, ◌≤◌, List, length, Some, None, Ok, Err, Option, Result}
use Rattle.image.specs.Sectors.{Image}
use Rattle.tree.specs.declared.node.Node.{Node}
use Rattle.recording.specs.Reading.{open_fault}
use Rattle.filesystem.specs.Outcomes.{Outcome}
use Rattle.law.specs.Subject.{takes, declines}
use Rattle.meaning.specs.Meanings.{meaning_by}
use Rattle.meaning.specs.Loads.{by_head}
use Rattle.trace.specs.declared.steps.Trace.{Trace}
use Rattle.trace.specs.Meaning.{effects_of, marks_of, recording_of, Whole}
use Rattle.loading.specs.Loading as L
use Rattle.candidates.specs.Refusals as K
use Rattle.points.specs.Counting.{Fine}
use Rattle.taking.specs.declared.refusal.Refusal.{Refusal}
use Rattle.taking.specs.declared.refusal.Refusal.TheVariants.{Reading, Points}

-- the number and the place of a refusal; want of memory has none
abbrev pub code_of : Refusal → Option (ℕ × ℕ)
code_of (Reading f) = L.code_of f
code_of (Points f) = Some (K.code_of f)

-- What a run needs of a trace that was taken: every point within the limits, few entries with a mark for each, and whole
-- sectors alone written.
pub record Fit (base : Image) (t : Trace) : Type 0 where
  pub points : (p : ℕ) → p ≤ length (effects_of t) → Fine (recording_of base t) (marks_of t) p
  pub few : length (effects_of t) ≤ 256
  pub marks : length (marks_of t) ≡ length (effects_of t)
  pub whole : Whole (effects_of t)

-- the bytes are declined by this number and place; memory is wanting only behind the head
abbrev pub Declined : List ℕ → (base : Image) → Option (ℕ × ℕ) → Type 0
Declined bytes base (Some c) = (outcome : Image → Outcome) (nodes : List Node) → by_head outcome base nodes bytes (open_fault bytes) ≡ declines c.0 c.1
Declined bytes base None = open_fault bytes ≡ None

-- What is answered, whatever recovery makes of images and whatever tree the base recovers to: the recording's meaning in
-- memory, or the first condition by which it is declined.
abbrev pub Taken : List ℕ → (base : Image) → Result Trace Refusal → Type 0
Taken bytes base (Ok t) =
    ((outcome : Image → Outcome) (nodes : List Node) → by_head outcome base nodes bytes (open_fault bytes) ≡ takes (meaning_by outcome base nodes (effects_of t) (marks_of t)))
    × Fit base t
Taken bytes base (Err f) = Declined bytes base (code_of f)
