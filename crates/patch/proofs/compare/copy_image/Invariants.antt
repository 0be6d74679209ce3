use Rattle.std.proofs.Common.{◌≡◌, ◌++◌, take, drop}
use Rattle.patch.proofs.compare.copy_image.Given as goal

-- the first n sectors are those of the other store
abbrev pub invariant-loop-n : goal.invariant-loop-n
invariant-loop-n g l =
    (g.B.ImageStore.sectors l.to ≡ take l.n (g.A.ImageStore.sectors l.from) ++ drop l.n (g.B.ImageStore.sectors l.initial.to))
    × g.B.ImageStore.keeps l.initial.to l.to
