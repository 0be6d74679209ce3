-- What steps write, and the step and the effect of each number.
use Rattle.std.proofs.Common.{◌≡◌, ℕ, zero, suc, ◌+◌, ◌-◌, ◌<◌, ◌≤◌, ◌&&◌, ltb, leb, List, [], length, get_or, vec_items, sym, refl, ap, ◌∙◌, subst, inl, inr, arith}
use Rattle.std.proofs.lemmas.List.FromFn.{length-map-range_with_len, get_or-map-range_with_len}
use Rattle.std.proofs.lemmas.List.{length-replicate, get_or-replicate, get_or_past, get_or-map, length-map}
use Rattle.std.proofs.lemmas.Bool.{cases_lt}
use Rattle.image.specs.Sectors.{Sector}
use Rattle.mark.specs.declared.mark.Mark.TheVariants.{Comment}
use Rattle.crash.specs.Effects.{zeros}
use Rattle.crash.specs.Nodes.{mark_at}
use Rattle.crash.specs.Rules.{content, nothing}
use Rattle.crash.specs.States.{is_writer}
use Rattle.trace.specs.declared.steps.Source.{Source}
use Rattle.trace.specs.declared.steps.Source.TheVariants.{Zeros, Data}
use Rattle.trace.specs.declared.steps.Step.{Step}
use Rattle.trace.specs.declared.steps.Trace.{Trace}
use Rattle.trace.specs.Meaning.{HasNoEntry, contents_from, step_effect, covering, idle, step_at, effects_of, marks_of, content_at}

pub step_one : (steps : List Step) (k : ℕ) → 0 < k → step_at steps k ≡ get_or steps (k - 1) idle
step_one steps zero h = absurd (omega arith)
step_one steps (suc i) h = let e : i ≡ suc i - 1 = omega arith in ap (λ j. get_or steps j idle) e

pub step_none : (steps : List Step) (k : ℕ) → length steps < k → step_at steps k ≡ idle
step_none steps k h = step_one steps k (omega arith) ∙ get_or_past steps (k - 1) idle (omega arith)

pub length_contents : (sectors : List Sector) (source : Source) (n : ℕ) → length (contents_from sectors source n) ≡ n
length_contents sectors Zeros n = length-replicate n zeros
length_contents sectors (Data from) n = length-map-range_with_len (λ i. get_or sectors (from + i) []) 0 n

module _ (sectors : List Sector) (s : ℕ) where
  pub none_written : (step : Step) → step.sectors ≤ s - step.first → content (step_effect sectors step) s ≡ []
  none_written step h =
      get_or_past (contents_from sectors step.source step.sectors) (s - step.first) [] (subst (λ (n : ℕ). n ≤ s - step.first) (sym (length_contents sectors step.source step.sectors)) h)

  pub zeros_written : (step : Step) → step.source ≡ Zeros → s - step.first < step.sectors → content (step_effect sectors step) s ≡ zeros
  zeros_written step e h =
      ap (λ (x : Source). get_or (contents_from sectors x step.sectors) (s - step.first) []) e ∙ get_or-replicate step.sectors (s - step.first) zeros [] h

  pub data_written : (step : Step) (from : ℕ) → step.source ≡ Data from → s - step.first < step.sectors →
      content (step_effect sectors step) s ≡ get_or sectors (from + (s - step.first)) []
  data_written step from e h =
      ap (λ (x : Source). get_or (contents_from sectors x step.sectors) (s - step.first) []) e
      ∙ get_or-map-range_with_len (λ i. get_or sectors (from + i) []) 0 step.sectors (s - step.first) (s - step.first) [] h (omega arith)

-- the effect of a number is that of its step
pub effect_one : (t : Trace) (i : ℕ) → get_or (effects_of t) i nothing ≡ step_effect (vec_items t.sectors) (get_or (vec_items t.steps) i idle)
unfolding effects_of
effect_one t i = elim (cases_lt i (length (vec_items t.steps))) [
  | inl l ↦ get_or-map (step_effect (vec_items t.sectors)) (vec_items t.steps) i idle nothing l
  | inr g ↦
      get_or_past (effects_of t) i nothing (subst (λ (k : ℕ). k ≤ i) (sym (length-map (vec_items t.steps) (step_effect (vec_items t.sectors)))) g)
      ∙ ap (step_effect (vec_items t.sectors)) (sym (get_or_past (vec_items t.steps) i idle g))
]

pub content_of : (t : Trace) (base : Sector) (s j : ℕ) → 0 < j → content_at base (effects_of t) s j ≡ content (step_effect (vec_items t.sectors) (step_at (vec_items t.steps) j)) s
content_of t base s zero h = absurd (omega arith)
content_of t base s (suc i) h = ap (λ e. content e s) (effect_one t i)

-- a number above the last has no content
pub content_past : (t : Trace) (base : Sector) (s j : ℕ) → 0 < j → length (vec_items t.steps) < j → content_at base (effects_of t) s j ≡ []
content_past t base s j h l = content_of t base s j h ∙ ap (λ e. content (step_effect (vec_items t.sectors) e) s) (step_none (vec_items t.steps) j l)

-- no entry, so a step that does nothing
pub no_step : (t : Trace) (k : ℕ) → HasNoEntry t k → step_at (vec_items t.steps) k ≡ idle
no_step t k (inl e) = ap (step_at (vec_items t.steps)) e
no_step t k (inr l) = step_none (vec_items t.steps) k l

-- the mark of a number is that of its step
pub mark_of_step : (t : Trace) (k : ℕ) → mark_at (marks_of t) k ≡ (step_at (vec_items t.steps) k).mark
unfolding marks_of
mark_of_step t zero = refl
mark_of_step t (suc i) = elim (cases_lt i (length (vec_items t.steps))) [
  | inl l ↦ get_or-map (λ s. s.mark) (vec_items t.steps) i idle Comment l
  | inr g ↦
      get_or_past (marks_of t) i Comment (subst (λ (n : ℕ). n ≤ i) (sym (length-map (vec_items t.steps) (λ s. s.mark))) g)
      ∙ ap (λ (s : Step). s.mark) (sym (get_or_past (vec_items t.steps) i idle g))
]

-- no entry, so a comment
pub mark_past : (t : Trace) (k : ℕ) → HasNoEntry t k → mark_at (marks_of t) k ≡ Comment
mark_past t k h = mark_of_step t k ∙ ap (λ (s : Step). s.mark) (no_step t k h)

-- a step's effect writes the sectors that the step covers
pub covers_writes : (sectors : List Sector) (step : Step) (s : ℕ) → covering step s ≡ is_writer (step_effect sectors step) s
covers_writes sectors step s = ap (λ n. leb step.first s && ltb s (step.first + n)) (sym (length_contents sectors step.source step.sectors))

pub effects_length : (t : Trace) → length (effects_of t) ≡ length (vec_items t.steps)
unfolding effects_of
effects_length t = length-map (vec_items t.steps) (step_effect (vec_items t.sectors))
