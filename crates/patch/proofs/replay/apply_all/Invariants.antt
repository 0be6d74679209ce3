use Rattle.std.proofs.Common.{◌≡◌, length, None}
use Rattle.recording.specs.Recorded.{remaining, items_of}
use Rattle.patch.specs.Replayed.{first_outside, applied_all}
use Rattle.patch.proofs.replay.apply_all.Given as goal

-- none of the entries that are left lies outside, and to apply them comes to the whole
abbrev pub invariant-loop-entry : goal.invariant-loop-entry
invariant-loop-entry g l =
    (first_outside (length (g.S.ImageStore.sectors l.store)) (items_of (remaining l.entry-iterator.reader)) ≡ None)
    × (applied_all (items_of (remaining l.entry-iterator.reader)) (g.S.ImageStore.sectors l.store) ≡ applied_all (items_of (remaining l.fn.entries.reader)) (g.S.ImageStore.sectors l.initial.store))
    × g.S.ImageStore.keeps l.initial.store l.store
