-- What a crash may leave: the rules.
-- Entries are numbered 1 to n. Crash point p, 0 to n, lies after entry p.
use Rattle.std.specs.Prelude.{◌≡◌, ℕ, zero, suc, ◌+◌, ◌-◌, ◌<◌, ◌≤◌, true, false, ◌⊎◌, List, [], length, slice_index_or}
use Rattle.image.specs.Sectors.{Sector, Image}
use Rattle.crash.specs.Effects.{Effect}

-- the disk before entry 1, and what each entry does to it
pub record Recording : Type 0 where
  pub base : Image
  pub effects : List Effect

abbrev pub HasFlush : Effect → Type 0
HasFlush e = e.flush ≡ true

abbrev pub HasFua : Effect → Type 0
HasFua e = e.fua ≡ true

abbrev pub Writes : Effect → ℕ → Type 0
Writes e s = (e.first ≤ s) × (s < e.first + length e.contents)

-- what an entry writes to sector s
abbrev pub content : Effect → ℕ → Sector
content e s = slice_index_or e.contents (s - e.first) []

-- what stands at a number that no entry has
abbrev pub nothing : Effect
nothing = record { flush = false; fua = false; first = 0; contents = [] }

-- what entry k does
abbrev pub effect_at : Recording → ℕ → Effect
effect_at d zero = nothing
effect_at d (suc i) = slice_index_or d.effects i nothing

-- WHEN A WRITE IS DURABLE. A write by entry k is durable at p if k ≤ p and entry k has FUA, or if some entry m with
-- k < m ≤ p has flush. Everything else knows only this name and its laws (DurableLaws in Laws).
unfoldable pub Durable : Recording → ℕ → ℕ → Type 0
Durable d p k = ((k ≤ p) × HasFua (effect_at d k)) ⊎ ((m : ℕ) × (k < m) × (m ≤ p) × HasFlush (effect_at d m))

-- Number j of sector s is struck out at p if a later entry k > j writes the sector and is durable at p.
abbrev pub StruckOut : Recording → ℕ → ℕ → ℕ → Type 0
StruckOut d p s j = (k : ℕ) × (j < k) × Writes (effect_at d k) s × Durable d p k

-- The numbers of sector s at p: 0, its base content, and each entry j ≤ p that writes it.
abbrev pub HasNumber : Recording → ℕ → ℕ → ℕ → Type 0
HasNumber d p s j = (j ≡ 0) ⊎ ((1 ≤ j) × (j ≤ p) × Writes (effect_at d j) s)

-- number j of sector s is not struck out at p
abbrev pub Stands : Recording → ℕ → ℕ → ℕ → Type 0
Stands d p s j = HasNumber d p s j × (StruckOut d p s j → ⊥)

-- the content of sector s with number j
abbrev pub written : Recording → ℕ → ℕ → Sector
written d s zero = slice_index_or d.base s []
written d s (suc i) = content (effect_at d (suc i)) s

-- The candidates of sector s at p are the contents of the numbers that stand.
abbrev pub Candidate : Recording → ℕ → ℕ → Sector → Type 0
Candidate d p s c = (j : ℕ) × Stands d p s j × (written d s j ≡ c)

-- A state permitted at p takes one candidate for each sector, independently.
abbrev pub Permitted : Recording → ℕ → Image → Type 0
Permitted d p image =
    (length image ≡ length d.base) × ((s : ℕ) → s < length d.base → Candidate d p s (slice_index_or image s []))
