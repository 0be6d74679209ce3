-- The sectors so far are copied.
use Rattle.std.proofs.Common.{◌≡◌}
use Rattle.journalled.specs.Journal.{copied}
use Rattle.journalled.proofs.replay.copy_homes.Given as goal

abbrev pub invariant-loop-i : goal.invariant-loop-i
invariant-loop-i g l = record {
  so_far : g.S.ImageStore.sectors l.image ≡ copied (g.S.ImageStore.sectors l.initial.image) l.i;
  kept : g.S.ImageStore.keeps l.initial.image l.image;
}
