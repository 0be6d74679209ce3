-- A run as the law sees it, and how a history leads to it.
use Rattle.std.specs.Prelude.{◌≡◌}
use Rattle.image.specs.Sectors.{Image}
use Rattle.image.specs.declared.store.ImageStore.{Ghosts as StoreMeaning}
use Rattle.filesystem.specs.declared.system.FileSystem.{Ghosts as SystemMeaning}
use Rattle.law.specs.Subject.{Subject}
use Rattle.law.specs.History.{Event, History, then}
use Rattle.law.specs.Steps.{View, Step, Reached}
use Rattle.meaning.specs.Subjects.{subject_of}
use Rattle.run.specs.declared.run.Run.{Run}
use Rattle.run.specs.Valid.{view_by}

module _ {S F : Type 0} {store : StoreMeaning S} {system : SystemMeaning F} where
  -- the base image of a run
  abbrev pub base_of : Run S F store system → Image
  base_of run = store.sectors run.layers.below.below

  -- what a run is about: its base, its file system, and what recordings mean over them
  abbrev pub subject : Run S F store system → Subject
  subject run = subject_of system.LEAST (system.outcome run.fs) (base_of run)

  -- the run as the law sees it
  abbrev pub view : Run S F store system → View
  view run = view_by (system.outcome run.fs) (base_of run) run.space run.progress

  -- The store and the file system of a run are the same values as before.
  abbrev pub Kept : Run S F store system → Run S F store system → Type 0
  Kept before after = (after.layers.below.below ≡ before.layers.below.below) × (after.fs ≡ before.fs)

  -- The event is a step of the law, from the run before to the run after.
  abbrev pub Goes : Run S F store system → Event → Run S F store system → Type 0
  Goes before e after = Step (subject before) (view before) e (view after)

  -- A run begun over the subject s has come to be this one by the history.
  abbrev pub Led : Subject → History → Run S F store system → Type 0
  Led s h run = (subject run ≡ s) × Reached s h (view run)

  -- Whatever history led to the run before, from whatever begin, with this event it leads to the run after.
  abbrev pub Went : Run S F store system → Event → Run S F store system → Type 0
  Went before e after = (s : Subject) (h : History) → Led s h before → Led s (then h e) after
