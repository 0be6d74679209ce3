use Rattle.std.proofs.Common.{◌≡◌}
use Rattle.recording.specs.Items.{sector_of}
use Rattle.recording.specs.Writes.{nth}
use Rattle.recording.specs.Reading.{item_seen}
use Rattle.patch.specs.Patched.{patched}
use Rattle.patch.proofs.apply.apply_entry.Given as goal

-- the first i sectors are new
abbrev pub invariant-loop-i : goal.invariant-loop-i
invariant-loop-i g l =
    (g.S.ImageStore.sectors l.store ≡ patched (sector_of (item_seen l.item)) l.i (nth (item_seen l.item)) (g.S.ImageStore.sectors l.initial.store))
    × g.S.ImageStore.keeps l.initial.store l.store
