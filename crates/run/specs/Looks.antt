-- What a look answers.
use Rattle.std.specs.Prelude.{◌≡◌, ℕ, ◌<◌, ◌≤◌, [], length, Ok, Err, Result, slice_index_or}
use Rattle.image.specs.Sectors.{Image}
use Rattle.image.specs.declared.refusal.Refusal.TheVariants.{BufferLength, SectorNumber}
use Rattle.run.specs.declared.refusal.Refusal.{Refusal}
use Rattle.run.specs.declared.refusal.Refusal.TheVariants.{Store, TooFewSectors, BaseFault, Recording, NothingLoaded, AlreadyLoaded, NoState, NotJudged, AlreadyJudged, HasEnded}
use Rattle.run.specs.declared.call.Answer.{Answer}
use Rattle.run.specs.declared.call.Answer.TheVariants.{Loaded, Next, Found, Forgone, Shown, Reported}

-- a buffer of another size is asked for first, then a sector outside
abbrev pub Refuses : Image → (sector size : ℕ) → Refusal → Type 0
Refuses image sector size (Store BufferLength) = size ≡ 512 → ⊥
Refuses image sector size (Store SectorNumber) = (size ≡ 512) × (length image ≤ sector)
Refuses image sector size TooFewSectors = ⊥
Refuses image sector size (BaseFault fault) = ⊥
Refuses image sector size (Recording f) = ⊥
Refuses image sector size NothingLoaded = ⊥
Refuses image sector size AlreadyLoaded = ⊥
Refuses image sector size NoState = ⊥
Refuses image sector size NotJudged = ⊥
Refuses image sector size AlreadyJudged = ⊥
Refuses image sector size HasEnded = ⊥

-- the sector of an image, or why it is not shown
abbrev pub Viewed : Image → (sector size : ℕ) → Result Answer Refusal → Type 0
Viewed image sector size (Err f) = Refuses image sector size f
Viewed image sector size (Ok Loaded) = ⊥
Viewed image sector size (Ok (Next next)) = ⊥
Viewed image sector size (Ok (Found j)) = ⊥
Viewed image sector size (Ok Forgone) = ⊥
Viewed image sector size (Ok (Shown content)) = (size ≡ 512) × (sector < length image) × (content ≡ slice_index_or image sector [])
Viewed image sector size (Ok (Reported r)) = ⊥
