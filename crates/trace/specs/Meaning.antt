-- What a trace means: the effects of its entries, and their marks.
use Rattle.std.specs.Prelude.{◌≡◌, ℕ, zero, suc, ◌+◌, ◌<◌, Bool, true, false, ◌&&◌, ◌⊎◌, List, [], map, length, get_or, replicate, vec_items, nat_le, nat_lt, slice_index_or}
use Rattle.std.specs.List.{range_with_len}
use Rattle.image.specs.Sectors.{Sector, Image}
use Rattle.mark.specs.declared.mark.Mark.{Mark}
use Rattle.mark.specs.declared.mark.Mark.TheVariants.{Comment}
use Rattle.crash.specs.Effects.{Effect, zeros}
use Rattle.crash.specs.Rules.{Recording, content, nothing}
use Rattle.crash.specs.States.{is_writer}
use Rattle.trace.specs.declared.steps.Source.{Source}
use Rattle.trace.specs.declared.steps.Source.TheVariants.{Zeros, Data}
use Rattle.trace.specs.declared.steps.Step.{Step}
use Rattle.trace.specs.declared.steps.Trace.{Trace}

-- the contents of so many sectors
abbrev pub contents_from : List Sector → Source → ℕ → List Sector
contents_from sectors Zeros n = replicate n zeros
contents_from sectors (Data from) n = map (λ i. get_or sectors (from + i) []) (range_with_len 0 n)

-- the effect of a step, with the data sectors of its trace
abbrev pub step_effect : List Sector → Step → Effect
step_effect sectors step = record {
  flush = step.flush;
  fua = step.fua;
  first = step.first;
  contents = contents_from sectors step.source step.sectors;
}

-- the step writes sector s
abbrev pub covering : Step → ℕ → Bool
covering step s = nat_le step.first s && nat_lt s (step.first + step.sectors)

-- a step that does nothing
abbrev pub idle : Step
idle = record { flush = false; fua = false; first = 0; sectors = 0; source = Zeros; mark = Comment }

-- the step of entry k
abbrev pub step_at : List Step → ℕ → Step
step_at steps zero = idle
step_at steps (suc i) = slice_index_or steps i idle

-- no entry of a trace has number k
abbrev pub HasNoEntry : Trace → (k : ℕ) → Type 0
HasNoEntry t k = (k ≡ 0) ⊎ (length (vec_items t.steps) < k)

-- the effects of all entries, and their marks
unfoldable pub effects_of : Trace → List Effect
effects_of t = map (step_effect (vec_items t.sectors)) (vec_items t.steps)

unfoldable pub marks_of : Trace → List Mark
marks_of t = map (λ s. s.mark) (vec_items t.steps)

-- the recording that a trace means over a base image
abbrev pub recording_of : Image → Trace → Recording
recording_of base t = record { base = base; effects = effects_of t }

-- the content of sector s with number j, if `base` is what it has in the base
abbrev pub content_at : Sector → List Effect → (s j : ℕ) → Sector
content_at base effects s zero = base
content_at base effects s (suc i) = content (slice_index_or effects i nothing) s

-- every content that an entry writes is a whole sector
abbrev pub Whole : List Effect → Type 0
Whole effects = (i s : ℕ) → is_writer (slice_index_or effects i nothing) s ≡ true → length (content (slice_index_or effects i nothing) s) ≡ 512
